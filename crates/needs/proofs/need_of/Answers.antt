use Rattle.std.proofs.Common.{rules, ◌≡◌, ◌∙◌, get_or}
use Rattle.numbers.proofs.Table.{values}
use Rattle.numbers.specs.declared.flow.Need.TheVariants.{None}
use Rattle.needs.specs.Needs.{need_of}
use Rattle.needs.proofs.KindLaws.{unknown_needs_none, in_table}
use Rattle.needs.proofs.need_of.Goals as goal

pub returns : goal.returns
unfolding need_of
returns c =
    let read : c.unwrap_or.result ≡ get_or (values need_of 0 0x1C) c.args.kind None = search rules in
    read ∙ in_table need_of None unknown_needs_none c.args.kind
