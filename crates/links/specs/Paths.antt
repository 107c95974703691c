-- Links and paths (01, "Who may do what"): "a path of zero or more links", as a reader would draw it and as it computes.
-- Assumes nothing.
use Rattle.std.specs.Prelude.{◌≡◌, Bool, true, false, ◌&&◌, ◌||◌, List, [], ◌∷◌, ℕ, eqb}

-- a link leads from one principal to another
pub record Link : Type 0 where
  pub from : ℕ
  pub to : ℕ

-- a link from p to q stands in the list
unfoldable pub joins : List Link → ℕ → ℕ → Bool
joins [] p q = false
joins (l ∷ ls) p q = eqb l.from p && eqb l.to q || joins ls p q

-- "a path of zero or more links" leads from p to q
pub data Path (ls : List Link) : ℕ → ℕ → Type 0 where
  here : {p : ℕ} → Path ls p p
  along : {p r : ℕ} (q : ℕ) → joins ls p q ≡ true → Path ls q r → Path ls p r

-- the same, computed: by the later links alone, or once over the first one
unfoldable pub leads : List Link → ℕ → ℕ → Bool
leads [] p q = eqb p q
leads (l ∷ ls) p q = leads ls p q || leads ls p l.from && leads ls l.to q
