-- The numbers of 01, section "Things and numbers", and the counter of its section "Remembered answers". Assumes nothing.
use Rattle.std.specs.Prelude.{ℕ, ◌+◌, min}

-- "Number 0 is the public, 1 is the office."
abbrev pub public : ℕ
public = 0

abbrev pub office : ℕ
office = 1

-- "Principals: at most 64."
abbrev pub most_principals : ℕ
most_principals = 64

-- "Tags: at most 64"
abbrev pub most_tags : ℕ
most_tags = 64

-- "Threads: at most 16."
abbrev pub most_threads : ℕ
most_threads = 16

-- "up to 8 principals put aside by calls"
abbrev pub most_put_aside : ℕ
most_put_aside = 8

-- "Objects: at most 64"
abbrev pub most_objects : ℕ
most_objects = 64

-- "of kind 0 cell, 1 queue, 2 lock"
abbrev pub cell : ℕ
cell = 0

abbrev pub queue : ℕ
queue = 1

abbrev pub lock : ℕ
lock = 2

-- "A message is 0 to 32 bytes."
abbrev pub longest_message : ℕ
longest_message = 32

-- "A queue holds at most 8"
abbrev pub most_queued : ℕ
most_queued = 8

-- "a list of link records that the caller lends, 256 places each"
abbrev pub link_places : ℕ
link_places = 256

-- "the answer buffer has fewer than 34 bytes"
abbrev pub answer_room : ℕ
answer_room = 34

-- "a memory size over 64"
abbrev pub most_remembered : ℕ
most_remembered = 64

-- "32-bit and stay at 4,294,967,295"
abbrev pub count_top : ℕ
count_top = 4294967295

-- one question or hit more
abbrev pub one_more : ℕ → ℕ
one_more n = min (n + 1) count_top
