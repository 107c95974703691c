-- The starred cases of 01, "Near the edges": where a case starts, its requests with the answers that they must get, and what must stand
-- afterwards. `AllCases` is the one statement over the list; it computes. Assumes nothing.
use Rattle.std.specs.Prelude.{◌≡◌, Bool, true, false, ◌&&◌, List, [], ◌∷◌, ◌++◌, ℕ, eqb, replicate}
use Rattle.numbers.specs.Numbers.{office}
use Rattle.tables.specs.Rows.{tag_row}
use Rattle.tables.specs.declared.Tables.{Tables}
use Rattle.tables.specs.declared.rows.Rank.TheVariants.{Supertag}
use Rattle.tables.specs.Things.{nobody, no_labels, no_thread, fresh_tables}
use Rattle.state.specs.Start.{empty_memory}
use Rattle.act.specs.World.{world_of}
use Rattle.act.specs.Step.{step_world, step_memory, step_answer}
use Rattle.assurance.specs.Runs.{Machine, fresh}

-- a request and its answer, byte by byte
pub record Turn : Type 0 where
  pub frame : List ℕ
  pub answer : List ℕ

infixl 20 ◌gives◌
abbrev pub ◌gives◌ : List ℕ → List ℕ → Turn
frame gives answer = record { frame = frame; answer = answer }

pub record Case : Type 0 where
  pub start : Machine
  pub turns : List Turn
  -- a test of what stands afterwards
  pub after : Machine → Bool

-- ---- how a case is run: by the step that the contracts cite

unfoldable pub same : List ℕ → List ℕ → Bool
same [] [] = true
same [] (y ∷ l) = false
same (x ∷ k) [] = false
same (x ∷ k) (y ∷ l) = eqb x y && same k l

unfoldable pub runs_to : Machine → List Turn → (Machine → Bool) → Bool
runs_to z [] look = look z
runs_to z (t ∷ ts) look =
    same (step_answer z.world z.memory t.frame) t.answer
    && runs_to (record { world = step_world z.world z.memory t.frame; memory = step_memory z.world z.memory t.frame }) ts look

unfoldable pub all_hold : List Case → Bool
all_hold [] = true
all_hold (c ∷ cs) = runs_to c.start c.turns c.after && all_hold cs

-- ---- what is looked at

abbrev anything : Machine → Bool
anything z = true

abbrev links_are : ℕ → Machine → Bool
links_are n z = eqb z.world.tables.links n

abbrev remembered : ℕ → ℕ → ℕ → Machine → Bool
remembered held questions hits z = eqb z.memory.held held && (eqb z.memory.questions questions && eqb z.memory.hits hits)

-- ---- where cases start

-- the fresh state with M = 8, and with M = 0
abbrev at_once : Machine
at_once = fresh 8

abbrev with_tables : Tables → Machine
with_tables t = record { world = world_of t (fresh 8).world.links (fresh 8).world.grants (fresh 8).world.store; memory = empty_memory 8 }

-- principals 0 to 5 and no links
abbrev six_principals : Machine
six_principals =
    with_tables (record {
      principals = 6;
      links = 0;
      tags = 0;
      grants = 0;
      threads = fresh_tables.threads;
      kinds = fresh_tables.kinds;
      objects = fresh_tables.objects;
    })

-- thread 0 runs as the public; principals 0 to 2
abbrev public_thread : Machine
public_thread =
    with_tables (record {
      principals = 3;
      links = 0;
      tags = 0;
      grants = 0;
      threads = record { live = 1; principal = nobody; labels = no_labels; calls = 0; aside = replicate 8 nobody } ∷ replicate 15 no_thread;
      kinds = fresh_tables.kinds;
      objects = fresh_tables.objects;
    })

-- 64 tags, all made by the office
abbrev all_tags : Machine
all_tags =
    with_tables (record {
      principals = 2;
      links = 0;
      tags = 64;
      grants = 0;
      threads = fresh_tables.threads;
      kinds = replicate 64 (tag_row (record { 0 = office }) Supertag);
      objects = fresh_tables.objects;
    })

-- ---- parts of lists of requests

-- the office makes principals 2 and 3, and jobs 1 and 2 that run as them
abbrev two_jobs : List Turn
two_jobs =
    ((0 ∷ 0x01 ∷ []) gives (0 ∷ 2 ∷ []))
    ∷ ((0 ∷ 0x01 ∷ []) gives (0 ∷ 3 ∷ []))
    ∷ ((0 ∷ 0x0E ∷ 2 ∷ []) gives (0 ∷ 1 ∷ []))
    ∷ ((0 ∷ 0x0E ∷ 3 ∷ []) gives (0 ∷ 2 ∷ []))
    ∷ []

-- a new object of this kind, with empty labels, is object 0
abbrev an_object : ℕ → Turn
an_object kind = (0 ∷ 0x12 ∷ kind ∷ replicate 16 0) gives (0 ∷ 0 ∷ [])

-- an empty message is put on queue 0
abbrev put_one : Turn
put_one = (0 ∷ 0x16 ∷ 0 ∷ 0 ∷ []) gives (0 ∷ [])

-- ---- the cases

abbrev pub cases : List Case
cases =
    -- 1 "Principal 5 acts for 5 with no links."
    record { start = six_principals; turns = ((0 ∷ 0x04 ∷ 5 ∷ 5 ∷ []) gives (0 ∷ 1 ∷ [])) ∷ []; after = links_are 0 }
    -- 2 "Delegate P = Q, not 0, by one who acts for P: 6."
    ∷ record { start = at_once; turns = ((0 ∷ 0x02 ∷ 1 ∷ 1 ∷ []) gives (6 ∷ [])) ∷ []; after = links_are 0 }
    -- 3 "Delegating the same link twice: done, one link."
    ∷ record {
      start = six_principals;
      turns = ((0 ∷ 0x02 ∷ 1 ∷ 2 ∷ []) gives (0 ∷ [])) ∷ ((0 ∷ 0x02 ∷ 1 ∷ 2 ∷ []) gives (0 ∷ [])) ∷ [];
      after = links_are 1;
    }
    -- 4 "A public thread may delegate from 0 to 2."
    ∷ record { start = public_thread; turns = ((0 ∷ 0x02 ∷ 0 ∷ 2 ∷ []) gives (0 ∷ [])) ∷ []; after = links_are 1 }
    -- 5 "Revoking an absent link keeps the memory."
    ∷ record {
      start = at_once;
      turns =
          ((0 ∷ 0x05 ∷ []) gives (0 ∷ 0 ∷ []))
          ∷ ((0 ∷ 0x09 ∷ 0 ∷ []) gives (0 ∷ 1 ∷ []))
          ∷ ((0 ∷ 0x03 ∷ 1 ∷ 0 ∷ []) gives (0 ∷ []))
          ∷ [];
      after = remembered 1 1 0;
    }
    -- 6 "Grant by 1 to 2, by 2 to 3, ungrant 1 to 2: 3 loses authority; granting 1 to 2 again restores it."
    ∷ record {
      start = at_once;
      turns =
          two_jobs
          ++ ((0 ∷ 0x05 ∷ []) gives (0 ∷ 0 ∷ []))
          ∷ ((0 ∷ 0x07 ∷ 0 ∷ 1 ∷ 2 ∷ []) gives (0 ∷ []))
          ∷ ((1 ∷ 0x07 ∷ 0 ∷ 2 ∷ 3 ∷ []) gives (0 ∷ []))
          ∷ ((2 ∷ 0x09 ∷ 0 ∷ []) gives (0 ∷ 1 ∷ []))
          ∷ ((0 ∷ 0x08 ∷ 0 ∷ 1 ∷ 2 ∷ []) gives (0 ∷ []))
          ∷ ((2 ∷ 0x09 ∷ 0 ∷ []) gives (0 ∷ 0 ∷ []))
          ∷ ((0 ∷ 0x07 ∷ 0 ∷ 1 ∷ 2 ∷ []) gives (0 ∷ []))
          ∷ ((2 ∷ 0x09 ∷ 0 ∷ []) gives (0 ∷ 1 ∷ []))
          ∷ [];
      after = remembered 1 3 0;
    }
    -- 7 "The supertag's holder is authoritative for the subtag; one granted only the subtag is not for the supertag."
    ∷ record {
      start = at_once;
      turns =
          two_jobs
          ++ ((0 ∷ 0x05 ∷ []) gives (0 ∷ 0 ∷ []))
          ∷ ((0 ∷ 0x06 ∷ 0 ∷ []) gives (0 ∷ 1 ∷ []))
          ∷ ((0 ∷ 0x07 ∷ 0 ∷ 1 ∷ 2 ∷ []) gives (0 ∷ []))
          ∷ ((0 ∷ 0x07 ∷ 1 ∷ 1 ∷ 3 ∷ []) gives (0 ∷ []))
          ∷ ((1 ∷ 0x09 ∷ 1 ∷ []) gives (0 ∷ 1 ∷ []))
          ∷ ((2 ∷ 0x09 ∷ 1 ∷ []) gives (0 ∷ 1 ∷ []))
          ∷ ((2 ∷ 0x09 ∷ 0 ∷ []) gives (0 ∷ 0 ∷ []))
          ∷ [];
      after = anything;
    }
    -- 8 "Message of 32 bytes: taken; length 33: 1."
    ∷ record {
      start = at_once;
      turns =
          an_object 0
          ∷ ((0 ∷ 0x15 ∷ 0 ∷ 32 ∷ replicate 32 7) gives (0 ∷ []))
          ∷ ((0 ∷ 0x14 ∷ 0 ∷ []) gives (0 ∷ 32 ∷ replicate 32 7))
          ∷ ((0 ∷ 0x15 ∷ 0 ∷ 33 ∷ replicate 33 7) gives (1 ∷ []))
          ∷ [];
      after = anything;
    }
    -- 9 "Put on 7 held: done; on 8: 7."
    ∷ record { start = at_once; turns = an_object 1 ∷ (replicate 8 put_one ++ ((0 ∷ 0x16 ∷ 0 ∷ 0 ∷ []) gives (7 ∷ [])) ∷ []); after = anything }
    -- 10 "Unlock of an unlocked lock: done."
    ∷ record { start = at_once; turns = an_object 2 ∷ ((0 ∷ 0x19 ∷ 0 ∷ []) gives (0 ∷ [])) ∷ []; after = anything }
    -- 11 "06 by a holder with 64 tags: 7, question counted."
    ∷ record { start = all_tags; turns = ((0 ∷ 0x06 ∷ 0 ∷ []) gives (7 ∷ [])) ∷ []; after = remembered 1 1 0 }
    -- 12 "M = 0: nothing is held, no hits."
    ∷ record {
      start = fresh 0;
      turns = ((0 ∷ 0x05 ∷ []) gives (0 ∷ 0 ∷ [])) ∷ ((0 ∷ 0x09 ∷ 0 ∷ []) gives (0 ∷ 1 ∷ [])) ∷ ((0 ∷ 0x09 ∷ 0 ∷ []) gives (0 ∷ 1 ∷ [])) ∷ [];
      after = remembered 0 2 0;
    }
    ∷ []

abbrev pub AllCases : Type 0
AllCases = all_hold cases ≡ true
