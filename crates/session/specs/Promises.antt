-- A session's promises pin their whole answers: the memory is a function of the history, and two answers that both meet a
-- promise are equal, whatever memory was lent.
use Rattle.std.specs.Prelude.{ℕ, ◌≡◌, List, Result}
use Rattle.std.proofs.Common.{sym, ◌∙◌}
use Rattle.rules.specs.declared.refusal.Refusal.{Refusal}
use Rattle.kept.specs.declared.shown.Listing.{Listing}
use Rattle.session.specs.declared.Session.{Session}
use Rattle.session.specs.Lent.{Lent}
use Rattle.session.specs.Memory.{Value, Gives}
use Rattle.session.specs.Answers.{Starting, Referring}
use Rattle.session.specs.Reads.{ListRead, ReferencesRead, HitsRead, MissesRead}

-- a history gives one session only
value_unique : {policy k : ℕ} {calls : List ℕ} {s s' : Session} → Value policy k calls s → Value policy k calls s' → s ≡ s'
value_unique a b =
    λ i. record {
      policy = (a.policy_is ∙ sym b.policy_is) i;
      k = (a.k_is ∙ sym b.k_is) i;
      length = (a.length_is ∙ sym b.length_is) i;
      references = (a.references_are ∙ sym b.references_are) i;
    }

module _ {policy k : ℕ} {calls : List ℕ} {s s' : Session} {places depths counts places' depths' counts' : List ℕ} where
  pub gives_unique : Gives policy k calls s places depths counts → Gives policy k calls s' places' depths' counts'
      → (s ≡ s') × (places ≡ places') × (depths ≡ depths') × (counts ≡ counts')
  gives_unique a b = (
    value_unique a.value b.value,
    a.list.places_are ∙ sym b.list.places_are,
    a.tallied.depths_are ∙ sym b.tallied.depths_are,
    a.counted.counts_are ∙ sym b.counted.counts_are,
  )

-- two starts that both meet the promise are equal, and so are the tables they leave
pub start_unique : {policy k : ℕ} {p d c p₁ d₁ c₁ p₂ d₂ c₂ : List ℕ} {r₁ r₂ : Result Session Refusal}
    → Starting policy k p d c p₁ d₁ c₁ r₁ → Starting policy k p d c p₂ d₂ c₂ r₂ → (r₁ ≡ r₂) × (p₁ ≡ p₂) × (d₁ ≡ d₂) × (c₁ ≡ c₂)
start_unique a b = (
  a.answer ∙ sym b.answer,
  a.places_are ∙ sym b.places_are,
  a.depths_are ∙ sym b.depths_are,
  a.counts_are ∙ sym b.counts_are,
)

-- two references that both meet the promise answer the same and leave the same, in any memory
pub refer_unique : {before after after' : Lent} {page : ℕ} {r r' : Result ℕ Refusal} → Referring before page after r
    → Referring before page after' r' → (r ≡ r') × (after ≡ after')
refer_unique f g = (f.depth_is ∙ sym g.depth_is, f.memory_is ∙ sym g.memory_is)

-- two reads that both meet the promise are equal, in any memory
pub list_read_unique : {s : Session} {p : List ℕ} {r₁ r₂ : Listing} → ListRead s p r₁ → ListRead s p r₂ → r₁ ≡ r₂
list_read_unique f g = f.answered ∙ sym g.answered

pub references_read_unique : {s : Session} {r₁ r₂ : ℕ} → ReferencesRead s r₁ → ReferencesRead s r₂ → r₁ ≡ r₂
references_read_unique f g = f.answered ∙ sym g.answered

pub hits_read_unique : {s : Session} {d : List ℕ} {c : ℕ} {r₁ r₂ : Result ℕ Refusal} → HitsRead s d c r₁ → HitsRead s d c r₂
    → r₁ ≡ r₂
hits_read_unique f g = f.answered ∙ sym g.answered

pub misses_read_unique : {s : Session} {d : List ℕ} {c : ℕ} {r₁ r₂ : Result ℕ Refusal} → MissesRead s d c r₁ → MissesRead s d c r₂
    → r₁ ≡ r₂
misses_read_unique f g = f.answered ∙ sym g.answered
