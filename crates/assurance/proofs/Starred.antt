-- The starred cases compute. Assumes nothing.
use mathlib.Core.Path.{refl}
use Rattle.decide_authority.specs.Authority.{new_principal, delegate, revoke, tells_acts_for, tag_if_room, new_tag, new_subtag, grant, ungrant}
use Rattle.decide_objects.specs.Objects.{new_object, put, get, lock}
use Rattle.decide_threads.specs.Threads.{out_of_secrecy, into_integrity, returned, fork, call}
use Rattle.frames.specs.Requests.{fixed_length, length_byte, authority_request, thread_request, object_request, outside_request, well_formed, request_by}
use Rattle.links.specs.Authority.{acts_for_some}
use Rattle.links.specs.Cycles.{every_link, no_cycle}
use Rattle.links.specs.Links.{links_from, find_from, gap_closed}
use Rattle.links.specs.Paths.{joins, leads}
use Rattle.memory.specs.Remembered.{without, remembered}
use Rattle.needs.specs.Needs.{need_of}
use Rattle.numbers.specs.Below.{all_below, any_below, count_below}
use Rattle.numbers.specs.Labels.{within, with_tag, without_tag, union, names_only_made, size}
use Rattle.numbers.specs.Sets.{set_of}
use Rattle.prelude.specs.Prelude.{prelude}
use Rattle.act.specs.Step.{outcome_by}
use Rattle.tables.specs.Rows.{rank_of, what_of}
use Rattle.assurance.specs.Cases.{AllCases, all_hold, runs_to, same}

pub all-cases : AllCases
unfolding all_hold runs_to same new_principal delegate revoke tells_acts_for tag_if_room new_tag new_subtag grant ungrant new_object put get lock out_of_secrecy into_integrity returned fork call need_of fixed_length length_byte authority_request thread_request object_request outside_request well_formed request_by acts_for_some every_link no_cycle links_from find_from gap_closed joins leads without remembered all_below any_below count_below within with_tag without_tag union names_only_made size set_of prelude outcome_by rank_of what_of
all-cases = refl
