-- How many bytes a State has, as C lays it out: a number stands at a multiple of its own size, so that some bytes before it may be left free. The fields are added up in their order; what is left
-- free stands as the last number in its bracket. Assumes nothing.
use Rattle.std.specs.Prelude.{ℕ, ◌+◌, ◌*◌}

-- secrecy, integrity
abbrev label_pair : ℕ
label_pair = 8 + 8

-- whether it is live, the principal; the labels; how many are put aside; those
abbrev thread_row : ℕ
thread_row = (1 + 1 + 6) + label_pair + 8 + 8 * 1

-- the maker; whether it is a subtag; its supertag
abbrev tag_row : ℕ
tag_row = 1 + 1 + 1

-- whether it is live, the kind; how many messages it holds; whether it is locked; the labels
abbrev object_row : ℕ
object_row = (1 + 1 + 6) + 8 + (1 + 7) + label_pair

-- how many principals, links, tags and grants there are; 16 threads, 64 tags, 64 objects
abbrev tables : ℕ
tables = (4 + 4) + 8 + (4 + 4) + 8 + 16 * thread_row + 64 * tag_row + 64 * object_row

-- the size; how many pairs it holds; 64 pairs; the questions, the hits
abbrev memory : ℕ
memory = 8 + 8 + 64 * 4 + 4 + 4

abbrev pub state_size : ℕ
state_size = tables + memory
