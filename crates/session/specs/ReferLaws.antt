-- What an accepted start says, and which references are accepted: as many as the limit allows, and pages only.
use Rattle.std.specs.Prelude.{ℕ, ◌≤◌, ◌<◌, ◌≡◌, refl, List, [], ◌∷◌, leb, length}
use Rattle.std.proofs.Common.{arith}
use borrow.Author.Tests.{le-leb, lt-leb, leb-true, leb-false}
use Rattle.rules.specs.Limits.{capacities, references, pages, opt}
use Rattle.rules.specs.Cases.{by_cases}
use Rattle.rules.specs.Refusals.{accepted}
use Rattle.rules.specs.AnswerLaws.{not_accepted}
use Rattle.kept.specs.Below.{Below}
use Rattle.session.specs.History.{start_answer, accepted_of}

-- what an accepted start says of its policy and its limit
pub record Bounds (policy k : ℕ) : Type 0 where
  pub session : policy < opt
  pub low : 1 ≤ k
  pub high : k ≤ capacities

pub start_bounds : (policy k : ℕ) → start_answer policy k ≡ accepted → Bounds policy k
start_bounds policy k e =
    by_cases (leb opt policy) (λ a. not_accepted (rw a at e))
    (λ a. by_cases (leb 1 k)
    (λ b. by_cases (leb k capacities)
    (λ c. record { session = leb-false opt policy a; low = leb-true 1 k b; high = leb-true k capacities c })
    (λ c. not_accepted (rw (a, b, c) at e)))
    (λ b. not_accepted (rw (a, b) at e)))

-- a reference is accepted exactly if neither refusal applies
module _ (calls : List ℕ) (page : ℕ) where
  pub accepted_next : length (accepted_of calls) < references → page < pages
      → accepted_of (page ∷ calls) ≡ page ∷ accepted_of calls
  unfolding accepted_of
  accepted_next h p = rw (lt-leb references (length (accepted_of calls)) h, lt-leb pages page p)

  pub accepted_full : references ≤ length (accepted_of calls) → accepted_of (page ∷ calls) ≡ accepted_of calls
  unfolding accepted_of
  accepted_full h = rw (le-leb references (length (accepted_of calls)) h)

  pub accepted_bad : length (accepted_of calls) < references → pages ≤ page → accepted_of (page ∷ calls) ≡ accepted_of calls
  unfolding accepted_of
  accepted_bad h p = rw (lt-leb references (length (accepted_of calls)) h, le-leb pages page p)

  -- the three ways in which a reference can go
  pub three_ways : {A : Type 0} → (references ≤ length (accepted_of calls) → A)
      → (length (accepted_of calls) < references → pages ≤ page → A)
      → (length (accepted_of calls) < references → page < pages → A) → A
  three_ways full bad fine =
      by_cases (leb references (length (accepted_of calls))) (λ e. full (leb-true references (length (accepted_of calls)) e))
      (λ e. by_cases (leb pages page) (λ d. bad (leb-false references (length (accepted_of calls)) e) (leb-true pages page d))
      (λ d. fine (leb-false references (length (accepted_of calls)) e) (leb-false pages page d)))

-- the accepted references are pages, and no more than the limit
pub accepted_below : (calls : List ℕ) → Below pages (accepted_of calls)
unfolding accepted_of
accepted_below [] = tt
accepted_below (page ∷ calls) =
    three_ways calls page (λ h. rw (accepted_full calls page h) (accepted_below calls))
    (λ h p. rw (accepted_bad calls page h p) (accepted_below calls))
    (λ h p. rw (accepted_next calls page h p) (p, accepted_below calls))

pub accepted_few : (calls : List ℕ) → length (accepted_of calls) ≤ references
unfolding accepted_of
accepted_few [] = omega arith
accepted_few (page ∷ calls) =
    three_ways calls page (λ h. rw (accepted_full calls page h) (accepted_few calls))
    (λ h p. rw (accepted_bad calls page h p) (accepted_few calls))
    (λ h p. rw (accepted_next calls page h p) (omega arith))

-- no more pages than the limit, and pages only: all of them are accepted
pub accepted_all : (calls : List ℕ) → Below pages calls → length calls ≤ references → accepted_of calls ≡ calls
unfolding accepted_of
accepted_all [] good few = refl
accepted_all (page ∷ calls) good few =
    let rest : accepted_of calls ≡ calls = accepted_all calls good.1 (omega arith) in
    rw (accepted_next calls page (rw rest (omega arith)) good.0, rest)
