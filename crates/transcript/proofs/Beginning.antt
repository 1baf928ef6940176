-- What a trace begins with, put together from the calls.
use Rattle.std.proofs.Common.{◌≡◌, ℕ, cond, false, List, Option, is_some, ap, ◌∙◌, sym}
use lib.IntN.{ℤ, pos}
use Rattle.std.specs.Prelude.{eqb}
use Rattle.base.specs.Refusal.{number_of, judged}
use Rattle.acks.specs.Acks.{row_of, margin}
use Rattle.votes.specs.declared.Rows.{Rows}
use Rattle.votes.specs.Rows.{no_rows}
use Rattle.messages.specs.declared.Request.{Request}
use Rattle.messages.specs.declared.setup.Setup.{Setup}
use Rattle.messages.specs.Setup.{read_setup}
use Rattle.replica.specs.declared.Replica.{Replica}
use Rattle.replica.specs.declared.Step.{Step}
use Rattle.replica.specs.Replica.{own_refusals}
use Rattle.replica.specs.MarginLaws.{margin_told}
use Rattle.replica.specs.Steps.{setup_step}
use Rattle.transcript.specs.declared.State.{State}
use Rattle.transcript.specs.declared.begin.Begun.{Begun}
use Rattle.transcript.specs.Transcript.{faulty_of}
use Rattle.transcript.specs.Feeding.{no_request, setup_said, resumed, begun_by}
use Rattle.transcript.proofs.Stepping.{standing}

-- The margin that is kept, as it was passed on, is the replica's.
module _ (s : Replica) (setup : ℕ) (passed m : ℤ) (request : Request) (rows : Rows) where
  abbrev counted : ℕ → ℤ
  counted k = cond (eqb k 0) (margin s.n s.f (row_of s.acks)) (pos 0)

  pub resumed_is : setup ≡ number_of (judged (own_refusals s)) → passed ≡ m → m ≡ counted setup → request ≡ no_request
      → rows ≡ no_rows 0 0 (record { 0 = 0 }) → standing 0 passed 0 false false request s rows ≡ resumed s
  resumed_is p same q e f =
      let told = same ∙ q ∙ ap counted p ∙ sym (margin_told s) in
      rw (told, e, f)

-- What a line H begins.
pub begun_is : (l : List ℕ) (o : Option Setup) (h : Setup) (f : ℕ) (t : Step) (number : ℕ) (st : State)
    → o ≡ read_setup l → h ≡ setup_said o → f ≡ faulty_of h → t ≡ setup_step h.n f h.seat h.entry
    → number ≡ cond (is_some o) t.number 19 → st ≡ resumed t.next
    → ◌≡◌ {A = Begun} (record { number = number; state = st }) (begun_by l)
unfolding begun_by
begun_is l o h f t number st p q e k z g = rw (g, z, k, e, q, p)
