-- A run over a trace, reference by reference: once for every policy.
use Prim.Native.Nat.{ℕ, zero, suc, ◌≤◌, ◌<◌}
use Rattle.std.proofs.Common.{arith, sym, subst, length-take, take-suc, get_or-take, length-take-le}
use Rattle.std.specs.Prelude.{◌≡◌, take, replicate}
use Rattle.std.proofs.Math.Path.{refl}
use mathlib.Core.List.{List, [], ◌∷◌, ◌++◌, reverse_aux}
use Rattle.std.proofs.Math.ListN.{length, drop, get_or}
use Rattle.std.proofs.lemmas.List.{length-reverse}
use Rattle.std.proofs.Math.Seq.{drop-cons}
use Rattle.rules.specs.Limits.{capacities, references, pages}
use Rattle.kept.specs.Below.{Below, below_take}
use Rattle.run.specs.ReferredAll.{RunMemory, run_memory, memory_after, ReferredAll}
use Rattle.run.specs.RunLaws.{Runs, run_start, then_runs}
use Rattle.count.specs.Runs.{before, Ran, Followable}

reverse_snoc : (l r : List ℕ) (a : ℕ) → reverse_aux (l ++ (a ∷ [])) r ≡ a ∷ reverse_aux l r
reverse_snoc [] r a = refl
reverse_snoc (z ∷ l) r a = reverse_snoc l (z ∷ r) a

pub before_next : (trace : List ℕ) (i : ℕ) → i < length trace → before trace (suc i) ≡ get_or trace i 0 ∷ before trace i
before_next trace i h = rw (take-suc trace i 0 h, reverse_snoc (take i trace) [] (get_or trace i 0))

below_reverse : (n : ℕ) (l r : List ℕ) → Below n l → Below n r → Below n (reverse_aux l r)
below_reverse n [] r hl hr = hr
below_reverse n (z ∷ l) r hl hr = below_reverse n l (z ∷ r) hl.1 (hl.0, hr)

pub before_below : (n : ℕ) (trace : List ℕ) (i : ℕ) → Below n trace → Below n (before trace i)
before_below n trace i h = below_reverse n (take i trace) [] (below_take n i trace h) tt

pub below_at : (n : ℕ) (trace : List ℕ) (i : ℕ) → Below n trace → i < length trace → get_or trace i 0 < n
below_at n [] i h l = absurd (omega arith)
below_at n (z ∷ trace) zero h l = h.0
below_at n (z ∷ trace) (suc i) h l = below_at n trace i h.1 (omega arith)

pub below_drop : (n i : ℕ) (l : List ℕ) → Below n l → Below n (drop i l)
below_drop n zero l h = h
below_drop n (suc i) [] h = tt
below_drop n (suc i) (z ∷ l) h = below_drop n i l h.1

pub before_length : (trace : List ℕ) (i : ℕ) → i ≤ length trace → length (before trace i) ≡ i
before_length trace i h = rw (length-reverse (take i trace), length-take i trace) (omega arith)

module _ {trace nexts : List ℕ} {policy k t : ℕ} (asked : Followable trace policy k t nexts) where
  -- before the first reference
  abbrev start : RunMemory
  start = run_memory 0 (replicate capacities 0) (replicate (suc capacities) 0) (replicate pages 0)

  abbrev after : ℕ → RunMemory
  after i = memory_after policy k (take t trace) nexts (length trace) start i

  -- after i of them, with the rest of the trace still to come
  runs_so_far : (i : ℕ) → i ≤ t → Runs policy k (before trace i) (drop i trace) (after i)
  unfolding memory_after
  runs_so_far zero h = run_start policy k trace refl
  runs_so_far (suc i) h =
      let fit = asked.fit in
      let inside : i < length trace = omega (arith, fit.within) in
      let here : drop i trace ≡ get_or trace i 0 ∷ drop (suc i) trace = drop-cons trace i 0 inside in
      let few : length (before trace i) < references = omega (arith, before_length trace i (omega arith), fit.short) in
      rw (get_or-take t trace i 0 (omega arith), before_next trace i inside)
      (then_runs fit.low fit.high (below_at pages trace i fit.good inside) (before_below pages trace i fit.good) few
      (asked.looks i inside) (rw here at (runs_so_far i (omega arith))))

  pub followed : {n d left : ℕ} {list depths counts : List ℕ} → left ≡ length trace
      → ReferredAll policy k (take t trace) nexts left start (run_memory n list depths counts) d
      → Ran policy trace k t (record { list = list; length = n; depths = depths })
  followed {n} {d} {left} {list} {depths} {counts} whole done =
      let all : length (take t trace) ≡ t = length-take-le t trace asked.fit.within in
      let same : run_memory n list depths counts ≡ after t = rw (whole, all) at done.memory_is in
      record {
        counts = counts;
        running =
            subst (λ (m : RunMemory). Runs policy k (before trace t) (drop t trace) m) (sym same) (runs_so_far t (omega arith));
      }
