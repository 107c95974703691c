-- Link records (01, "Things and numbers"): "Principal links (from, to) and tag links (tag, from, to): a list of link records that the
-- caller lends". A record stands for the number that the core gives its link (`links`, specs/Links). Assumes nothing.
use Rattle.std.specs.Prelude.{List, map, ◌++◌, ℕ, ◌*◌, ◌/◌, ◌%◌, length, take, drop, replicate}
use Rattle.links.specs.Links.{link_number, appended, gap_closed}
use Rattle.outcomes.specs.declared.ListChange.{ListChange}
use Rattle.outcomes.specs.declared.ListChange.TheVariants.{Keep, Append, Remove}
use Rattle.records.specs.declared.principals.PrincipalLink.{PrincipalLink}
use Rattle.records.specs.declared.tags.TagLink.{TagLink}

-- ---- a record's number, and a number's record

abbrev pub principal_number : PrincipalLink → ℕ
principal_number l = link_number 0 l.from l.to

abbrev pub principal_link : ℕ → PrincipalLink
principal_link x = record { from = record { 0 = x / 256 % 256 }; to = record { 0 = x % 256 } }

abbrev pub tag_number : TagLink → ℕ
tag_number l = link_number (l.tag.0 * 256) l.from l.to

abbrev pub tag_link : ℕ → TagLink
tag_link x = record { tag = record { 0 = x / 65536 % 256 }; from = record { 0 = x / 256 % 256 }; to = record { 0 = x % 256 } }

-- ---- a list of records of some kind

-- the numbers of the links ys, written over the front of ns; those past its end have no place
abbrev pub gathered : {A : Type 0} → (A → ℕ) → List A → List ℕ → List ℕ
gathered number ys ns = map number (take (length ns) ys) ++ drop (length ys) ns

-- what a request changes in ys, of which n places are in use
abbrev pub changed : {A : Type 0} → (ℕ → A) → ListChange → ℕ → List A → List A
changed link Keep n ys = ys
changed link (Append x) n ys = appended ys n (link x)
changed link (Remove i) n ys = gap_closed (link 0) ys n i

-- every place of ys is z: "Unused places are zero"
abbrev pub cleared : {A : Type 0} → A → List A → List A
cleared z ys = replicate (length ys) z
