-- A law for each return.
use Rattle.std.proofs.Common.{rules, ◌≡◌, Err, refl}
use Rattle.session.specs.Driving.{begun}
use Rattle.replay.proofs.ReplayLaws.{replay_fresh, replay_refused, replay_many, replay_short, replay_bad, replay_done}
use Rattle.replay.proofs.replay.Goals as goal

pub returns-in_err-s : goal.returns-in_err-s
returns-in_err-s c =
    let same : c.from_residual.result ≡ Err c.in_err-s.field-0.0 = search rules in
    rw same (replay_refused c.in_err-s.ensures _ _ refl)

pub returns-then-trace-gt-REFERENCES : goal.returns-then-trace-gt-REFERENCES
returns-then-trace-gt-REFERENCES c =
    replay_many _ _ _ _ (begun c.in_ok-s.ensures refl).0 c.if-trace-gt-REFERENCES.true

pub returns-then-hits-k : goal.returns-then-hits-k
returns-then-hits-k c =
    replay_short _ _ _ _ (begun c.in_ok-s.ensures refl).0 c.if-trace-gt-REFERENCES.false c.if-hits-k.true

pub refer_all-requires : goal.refer_all-requires
refer_all-requires c = record { fresh = replay_fresh c.in_ok-s.ensures; few = search rules }

pub returns-in_err-refer_all : goal.returns-in_err-refer_all
returns-in_err-refer_all c =
    let b = begun c.in_ok-s.ensures refl in
    let same : c.from_residual-in_err-refer_all.result ≡ Err c.in_err-refer_all.field-0.0 = search rules in
    rw same
    (replay_bad _ _ _ _ b.0 c.if-trace-gt-REFERENCES.false c.if-hits-k.false b.1 c.in_err-refer_all.ensures refl)

pub returns : goal.returns
returns c =
    let b = begun c.in_ok-s.ensures refl in
    replay_done _ _ _ _ b.0 c.if-trace-gt-REFERENCES.false c.if-hits-k.false b.1 c.in_ok-refer_all.ensures refl c.fill.ensures
