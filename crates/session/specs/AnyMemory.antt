-- What each call makes of the memory that it is lent, whatever stands there: a session needs no premise. What this is where
-- a start and calls gave the memory is said in Answers.antt and Reads.antt, for every such history.
use Rattle.std.specs.Prelude.{ℕ, ◌+◌, ◌-◌, min, List}
use Rattle.rules.specs.Limits.{capacities}
use Rattle.rules.specs.Refusals.{when_accepted}
use Rattle.kept.specs.Tally.{up_to}
use Rattle.kept.specs.Shown.{shown_places}
use Rattle.kept.specs.declared.shown.Listing.{Listing}
use Rattle.run.specs.ReferredAll.{RunMemory, run_memory, depth_then, memory_then}
use Rattle.session.specs.declared.Session.{Session}
use Rattle.session.specs.History.{reference_answer}
use Rattle.session.specs.Lent.{Lent, lent_of}

-- the memory as that of a run; LRU and LFU look nothing up ahead
abbrev pub as_run : Lent → RunMemory
as_run m = run_memory m.value.length m.places m.depths m.counts

-- S3: the depth of a reference
unfoldable pub depth_in : Lent → ℕ → ℕ
depth_in m page = depth_then m.value.policy page 0 (as_run m)

-- the session with one reference more, and so many places in use
abbrev pub advanced : Session → ℕ → Session
advanced s used = record { policy = s.policy; k = s.k; length = used; references = s.references + 1 }

abbrev pub lent_as : Session → RunMemory → Lent
lent_as s run = lent_of (advanced s run.used) run.places run.depths run.counts

-- A3: all memory after a reference; a refused one leaves it
unfoldable pub after_reference : Lent → ℕ → Lent
after_reference m page =
    when_accepted (reference_answer m.value.references page)
    (lent_as m.value (memory_then m.value.policy m.value.k page 0 0 (as_run m)))
    m

-- A6: the pages in the places in use, and 0 past them
abbrev pub listing_in : Session → List ℕ → Listing
listing_in s places = record { length = s.length; places = shown_places s.length places }

-- A5: the depths 1 to C are hits at C, and the other references misses; 0 where the table says more hits than references
abbrev pub hits_in : List ℕ → ℕ → ℕ
hits_in depths c = up_to depths (min c capacities)

abbrev pub misses_in : Session → List ℕ → ℕ → ℕ
misses_in s depths c = s.references - hits_in depths c
