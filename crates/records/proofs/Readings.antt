-- A record and its number say the same: a record whose fields are bytes is that of its number, and a number that is not too large is that
-- of its record. Assumes nothing.
use mathlib.Core.Path.{◌≡◌, refl, ap₂}
use mathlib.Core.List.{List, [], ◌∷◌, map}
use Prim.Native.Nat.{ℕ, suc, ◌+◌, ◌*◌, ◌/◌, ◌%◌, ◌<◌}
use native.Mathlib.Omega.{arith}
use lib.ListN.{length, get_or}
use Rattle.records.specs.declared.principals.PrincipalLink.{PrincipalLink}
use Rattle.records.specs.declared.tags.TagLink.{TagLink}
use Rattle.records.specs.Records.{principal_number, principal_link, tag_number, tag_link}

-- where there and back leaves each element as it is, it leaves the list; z stands for what is past its end
back : {A B : Type 0} (there : A → B) (again : B → A) (Good : A → Type 0) (z : A) → ((x : A) → Good x → again (there x) ≡ x)
    → (l : List A) → ((i : ℕ) → i < length l → Good (get_or l i z)) → map again (map there l) ≡ l
back there again Good z same [] good = refl
back {A} there again Good z same (x ∷ l) good =
    ap₂ (λ (y : A) (k : List A). y ∷ k) (same x (good 0 (omega arith))) (back there again Good z same l (λ i h. good (suc i) (omega (arith, h))))

-- ---- a record whose fields are bytes is that of its number

abbrev pub PrincipalBytes : PrincipalLink → Type 0
PrincipalBytes y = (y.from.0 < 256) × (y.to.0 < 256)

abbrev pub TagBytes : TagLink → Type 0
TagBytes z = (z.tag.0 < 256) × (z.from.0 < 256) × (z.to.0 < 256)

principal-back : (y : PrincipalLink) → PrincipalBytes y → principal_link (principal_number y) ≡ y
principal-back y b =
    let p : ((0 + y.from.0) * 256 + y.to.0) / 256 % 256 ≡ y.from.0 = omega (arith, b.0, b.1) in
    let q : ((0 + y.from.0) * 256 + y.to.0) % 256 ≡ y.to.0 = omega (arith, b.0, b.1) in
    λ j. record { from = record { 0 = p j }; to = record { 0 = q j } }

tag_back : (z : TagLink) → TagBytes z → tag_link (tag_number z) ≡ z
tag_back z b =
    let t : ((z.tag.0 * 256 + z.from.0) * 256 + z.to.0) / 65536 % 256 ≡ z.tag.0 = omega (arith, b.0, b.1, b.2) in
    let p : ((z.tag.0 * 256 + z.from.0) * 256 + z.to.0) / 256 % 256 ≡ z.from.0 = omega (arith, b.0, b.1, b.2) in
    let q : ((z.tag.0 * 256 + z.from.0) * 256 + z.to.0) % 256 ≡ z.to.0 = omega (arith, b.0, b.1, b.2) in
    λ j. record { tag = record { 0 = t j }; from = record { 0 = p j }; to = record { 0 = q j } }

pub same-principals :
    (ys : List PrincipalLink) → ((i : ℕ) → i < length ys → PrincipalBytes (get_or ys i (principal_link 0))) → map principal_link (map principal_number ys) ≡ ys
same-principals = back principal_number principal_link PrincipalBytes (principal_link 0) principal-back

pub same-tags : (zs : List TagLink) → ((i : ℕ) → i < length zs → TagBytes (get_or zs i (tag_link 0))) → map tag_link (map tag_number zs) ≡ zs
same-tags = back tag_number tag_link TagBytes (tag_link 0) tag_back

-- ---- a number that is not too large is that of its record

principal-number-back : (x : ℕ) → x < 65536 → principal_number (principal_link x) ≡ x
principal-number-back x low = omega (arith, low)

tag-number-back : (x : ℕ) → x < 16777216 → tag_number (tag_link x) ≡ x
tag-number-back x low = omega (arith, low)

pub same-principal-numbers : (l : List ℕ) → ((i : ℕ) → i < length l → get_or l i 0 < 65536) → map principal_number (map principal_link l) ≡ l
same-principal-numbers = back principal_link principal_number (λ (x : ℕ). x < 65536) 0 principal-number-back

pub same-tag-numbers : (l : List ℕ) → ((i : ℕ) → i < length l → get_or l i 0 < 16777216) → map tag_number (map tag_link l) ≡ l
same-tag-numbers = back tag_link tag_number (λ (x : ℕ). x < 16777216) 0 tag-number-back
