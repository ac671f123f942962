-- Two answers that both meet an exported function's promise are equal, and so is the memory they leave, whatever was lent.
use Rattle.std.specs.Prelude.{ℕ, ◌≡◌, List, Result}
use Rattle.std.proofs.Common.{sym, ◌∙◌}
use Rattle.rules.specs.Told.{Told}
use Rattle.rules.specs.declared.refusal.Refusal.{Refusal}
use Rattle.file_theory.specs.Decoding.{Trace}
use Rattle.session.specs.declared.Session.{Session}
use Rattle.session.specs.Lent.{Lent}
use Rattle.exports.specs.Trace.{CountTold, ListTold}
use Rattle.exports.specs.File.{FileTold}
use Rattle.exports.specs.Session.{StartTold, ReferTold, ListShown, ReferencesTold, HitsTold, MissesTold}

pub count_told_once : {trace before x y : List ℕ} {policy k : ℕ} {a b : Told} → CountTold trace policy k before x a
    → CountTold trace policy k before y b
    → (a ≡ b) × (x ≡ y)
count_told_once p q = (p.answered ∙ sym q.answered, p.table ∙ sym q.table)

pub list_told_once : {trace before x y : List ℕ} {policy k t : ℕ} {a b : Told} → ListTold trace policy k t before x a
    → ListTold trace policy k t before y b → (a ≡ b) × (x ≡ y)
list_told_once p q = (p.answered ∙ sym q.answered, p.places ∙ sym q.places)

pub file_told_once : {o : Result Trace Refusal} {c r n c₁ r₁ n₁ c₂ r₂ n₂ : List ℕ} {a b : Told} → FileTold o c r n a c₁ r₁ n₁
    → FileTold o c r n b c₂ r₂ n₂
    → (a ≡ b) × (c₁ ≡ c₂) × (r₁ ≡ r₂) × (n₁ ≡ n₂)
file_told_once p q = (
  p.answered ∙ sym q.answered,
  p.caps_table ∙ sym q.caps_table,
  p.refs_table ∙ sym q.refs_table,
  p.counts ∙ sym q.counts,
)

pub start_told_once : {policy k : ℕ} {m m₁ m₂ : Lent} {a b : ℕ} → StartTold policy k m m₁ a → StartTold policy k m m₂ b
    → (a ≡ b) × (m₁ ≡ m₂)
start_told_once p q = (p.answered ∙ sym q.answered, p.memory ∙ sym q.memory)

pub refer_told_once : {m m₁ m₂ : Lent} {page : ℕ} {a b : Told} → ReferTold m page m₁ a → ReferTold m page m₂ b
    → (a ≡ b) × (m₁ ≡ m₂)
refer_told_once p q = (p.answered ∙ sym q.answered, p.memory ∙ sym q.memory)

pub list_shown_once : {s : Session} {places before x y : List ℕ} {a b : Told} → ListShown s places before x a
    → ListShown s places before y b → (a ≡ b) × (x ≡ y)
list_shown_once p q = (p.answered ∙ sym q.answered, p.memory ∙ sym q.memory)

pub references_told_once : {s : Session} {a b : Told} → ReferencesTold s a → ReferencesTold s b → a ≡ b
references_told_once p q = p.answered ∙ sym q.answered

pub hits_told_once : {s : Session} {depths : List ℕ} {c : ℕ} {a b : Told} → HitsTold s depths c a → HitsTold s depths c b → a ≡ b
hits_told_once p q = p.answered ∙ sym q.answered

pub misses_told_once : {s : Session} {depths : List ℕ} {c : ℕ} {a b : Told} → MissesTold s depths c a → MissesTold s depths c b
    → a ≡ b
misses_told_once p q = p.answered ∙ sym q.answered
