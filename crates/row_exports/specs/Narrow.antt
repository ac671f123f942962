-- A frame or a bank comes as 32 bits and is handed on in a byte (docs/RULES.md, X1): a number that does not fit becomes 255,
-- which is no frame's and no bank's either, so that every answer is the same.
use Rattle.std.specs.Prelude.{ℕ, ◌≤◌, min, ◌≡◌, false, List, Err}
use Rattle.std.proofs.Common.{arith, sym, ◌∙◌, le-leb, le-ltb}
use Rattle.std.proofs.Math.Bool.{and-false}
use Rattle.rules.specs.Limits.{frames}
use Rattle.rules.specs.Limits
use Rattle.rules.specs.Narrow.{narrow}
use Rattle.rules.specs.declared.refusal.Refusal.TheVariants.{BadFrame, BadBank}
use Rattle.row_theory.specs.States.{Call, verdict_of, accepts}
use Rattle.row_theory.specs.Row.{Row, after, reply_of}
use Rattle.row_theory.specs.Promise.{asked}
use Rattle.row_theory.specs.declared.Event.{Event}
use Rattle.bank_theory.specs.declared.Gating.{Gating}
use Rattle.bank_theory.specs.Banks.{Step, of_frame, of_bank, is_cut, gating_verdict, shut_out, shut, banks_under}
use Rattle.bank_theory.specs.Gated.{Gated, gated_then, reply_under, row_under}

-- two calls that answer alike and leave alike, whatever the row
pub record Alike (one two : Call) : Type 0 where
  pub reply : (row : Row) → reply_of row one ≡ reply_of row two
  pub next : (row : Row) → after row one ≡ after row two

-- R20: a number that is no frame's
module _ (row : Row) (event : Event) (frame : ℕ) (past : frames ≤ frame) where
  bad_reply : reply_of row (asked event frame) ≡ Err BadFrame
  unfolding reply_of verdict_of
  bad_reply = rw (le-leb frames frame past)

  bad_after : after row (asked event frame) ≡ row
  unfolding after accepts verdict_of
  bad_after = rw (le-leb frames frame past)

pub narrow_call : (event : Event) (frame : ℕ) → Alike (asked event (min frame 255)) (asked event frame)
narrow_call event frame =
    record {
      reply = λ row.
          narrow (λ f. reply_of row (asked event f)) 255 frame
          (λ past. bad_reply row event 255 (omega arith) ∙ sym (bad_reply row event frame (omega arith)));
      next = λ row.
          narrow (λ f. after row (asked event f)) 255 frame
          (λ past. bad_after row event 255 (omega arith) ∙ sym (bad_after row event frame (omega arith)));
    }

-- the same of calls under banks
pub record AlikeUnder (one two : Step) : Type 0 where
  pub reply : (gated : Gated) → reply_under gated one ≡ reply_under gated two
  pub next : (gated : Gated) → gated_then gated one ≡ gated_then gated two

not_shut : (banks : List ℕ) (event : Event) (frame : ℕ) → frames ≤ frame → shut banks (asked event frame) ≡ false
unfolding shut_out
not_shut banks event frame past = rw (le-ltb frame frames past)

frame_reply : (gated : Gated) (event : Event) (frame : ℕ) → frames ≤ frame →
    reply_under gated (of_frame (asked event frame)) ≡ Err BadFrame
unfolding reply_under
frame_reply gated event frame past =
    rw (not_shut gated.banks event frame past) (bad_reply gated.row event frame past)

frame_next : (gated : Gated) (event : Event) (frame : ℕ) → frames ≤ frame →
    gated_then gated (of_frame (asked event frame)) ≡ gated
unfolding gated_then row_under banks_under
frame_next gated event frame past =
    let row = bad_after gated.row event frame past in
    rw (not_shut gated.banks event frame past) (λ i. record { row = row i; banks = gated.banks })

pub narrow_frame : (event : Event) (frame : ℕ) →
    AlikeUnder (of_frame (asked event (min frame 255))) (of_frame (asked event frame))
narrow_frame event frame =
    record {
      reply = λ g.
          narrow (λ f. reply_under g (of_frame (asked event f))) 255 frame
          (λ past. frame_reply g event 255 (omega arith) ∙ sym (frame_reply g event frame (omega arith)));
      next = λ g.
          narrow (λ f. gated_then g (of_frame (asked event f))) 255 frame
          (λ past. frame_next g event 255 (omega arith) ∙ sym (frame_next g event frame (omega arith)));
    }

-- R32: a number that is no bank's
bank_refused : (states banks : List ℕ) (gating : Gating) (bank : ℕ) → Limits.banks ≤ bank →
    gating_verdict states banks gating bank ≡ Err BadBank
unfolding gating_verdict
bank_refused states banks gating bank past = rw (le-leb Limits.banks bank past)

bank_reply : (gated : Gated) (gating : Gating) (bank : ℕ) → Limits.banks ≤ bank →
    reply_under gated (of_bank gating bank) ≡ Err BadBank
unfolding reply_under
bank_reply gated gating bank past = rw (bank_refused gated.row.states gated.banks gating bank past)

bank_next : (gated : Gated) (gating : Gating) (bank : ℕ) → Limits.banks ≤ bank → gated_then gated (of_bank gating bank) ≡ gated
unfolding gated_then row_under banks_under
bank_next gated gating bank past =
    rw (bank_refused gated.row.states gated.banks gating bank past, and-false (is_cut gating))

pub narrow_bank : (gating : Gating) (bank : ℕ) → AlikeUnder (of_bank gating (min bank 255)) (of_bank gating bank)
narrow_bank gating bank =
    record {
      reply = λ g.
          narrow (λ b. reply_under g (of_bank gating b)) 255 bank
          (λ past. bank_reply g gating 255 (omega arith) ∙ sym (bank_reply g gating bank (omega arith)));
      next = λ g.
          narrow (λ b. gated_then g (of_bank gating b)) 255 bank
          (λ past. bank_next g gating 255 (omega arith) ∙ sym (bank_next g gating bank (omega arith)));
    }
