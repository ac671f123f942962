-- A session's history: the pages that it was given, latest first, refused ones included (rules S1 to S3, O3, O4).
use Rattle.std.specs.Prelude.{ℕ, not, ◌&&◌, List, [], ◌∷◌, leb, length}
use Rattle.rules.specs.Limits.{references, pages, is_capacity, opt}
use Rattle.rules.specs.Refusals.{Answer, accepted, refuse_if, when_accepted}
use Rattle.rules.specs.declared.refusal.Refusal.TheVariants.{BadPolicy, BadLimit, SessionFull, BadPage, BadCapacity}
use Rattle.theory.specs.Policy.{policy_of}
use Rattle.theory.specs.Plain.{hits_after, misses_after}
use Rattle.theory.specs.OnePass.{list_after, depth}

-- O3: 5, 1; policy 2 looks ahead, which a session cannot
abbrev pub start_answer : ℕ → ℕ → Answer
start_answer policy k =
    refuse_if (leb opt policy) BadPolicy
    (refuse_if (not (is_capacity k)) BadLimit
    accepted)

-- O4: 6, 3, of a session that has accepted so many
abbrev pub reference_answer : ℕ → ℕ → Answer
reference_answer so_far page =
    refuse_if (leb references so_far) SessionFull
    (refuse_if (leb pages page) (BadPage 0)
    accepted)

-- A3: a refused reference is not part of the history
unfoldable pub accepted_of : List ℕ → List ℕ
accepted_of [] = []
accepted_of (page ∷ calls) =
    when_accepted (reference_answer (length (accepted_of calls)) page) (page ∷ accepted_of calls) (accepted_of calls)

-- S2: the list, and the hits and misses at a capacity, after the calls
abbrev pub list_now : ℕ → ℕ → List ℕ → List ℕ
list_now policy k calls = list_after (policy_of policy) k (accepted_of calls) []

-- S3: the depth that an accepted reference answers
abbrev pub depth_of : ℕ → ℕ → List ℕ → ℕ → ℕ
depth_of policy k calls page = depth page (list_now policy k calls)

abbrev pub hits_now : ℕ → ℕ → List ℕ → ℕ
hits_now policy c calls = hits_after (policy_of policy) c (accepted_of calls) []

abbrev pub misses_now : ℕ → ℕ → List ℕ → ℕ
misses_now policy c calls = misses_after (policy_of policy) c (accepted_of calls) []

-- R7: the capacity asked of a session is 1 to K
abbrev pub capacity_answer : ℕ → ℕ → Answer
capacity_answer k c = refuse_if (not (leb 1 c && leb c k)) BadCapacity accepted
