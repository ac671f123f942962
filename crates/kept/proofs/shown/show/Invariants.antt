-- The pages of the entries so far are shown, and 0 past them.
use Rattle.std.proofs.Common.{◌≡◌, map, take}
use Rattle.kept.specs.Entries.{page_of}
use Rattle.kept.specs.Shown.{places_of}
use Rattle.kept.proofs.shown.show.Given as goal

abbrev pub invariant-loop-i : goal.invariant-loop-i
invariant-loop-i l = l.places ≡ places_of (map page_of (take l.i l.list))
