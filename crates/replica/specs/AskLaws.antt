-- A request is answered alike over the list of its rows and over the rows gathered one after the other.
use Rattle.std.specs.Prelude.{ℕ, ◌≡◌, Bool, List, [], ◌∷◌, ◌++◌, T, eqb}
use Rattle.std.proofs.Math.Path.{refl, ap}
use Rattle.std.proofs.Common.{sym, ◌∙◌, eqb-true}
use Rattle.std.proofs.Math.Bool.{true, false, not, cond}
use Rattle.std.proofs.Math.Dec.{leb}
use Rattle.base.specs.Refusal.{Refusals, first}
use Rattle.base.specs.RefusalLaws.{ascending, first_behind, front_none}
use Rattle.entry.specs.Entry.{well_formed}
use Rattle.seats.specs.Sizes.{size_refusals, size_number}
use Rattle.votes.specs.declared.Row.{Row}
use Rattle.votes.specs.declared.Rows.{Rows}
use Rattle.votes.specs.Rows.{no_rows, gathered, call_number}
use Rattle.votes.specs.RowLaws.{call_after_sizes}
use Rattle.votes.specs.Request.{row_refusals, gathered_refusals}
use Rattle.votes.specs.RequestLaws.{gathered_request}
use Rattle.messages.specs.declared.Request.{Request}
use Rattle.replica.specs.declared.Replica.{Replica}
use Rattle.replica.specs.Refusals.{ask_refusals}
use Rattle.replica.specs.Replica.{own_refusals, standing, number_for}
use Rattle.replica.specs.Steps.{refused, answered, confirming, ask_step, ask_with}

-- ---- two lists, one behind the other
module _ (rs : Refusals) (up : T (ascending 0 rs)) where
  -- What stands behind counts where nothing of the first applies.
  alike_behind : (ss us : Refusals) → (first rs ≡ 0 → first ss ≡ first us) → first (rs ++ ss) ≡ first (rs ++ us)
  alike_behind ss us h = first_behind 0 rs ss up ∙ go (eqb (first rs) 0) refl ∙ sym (first_behind 0 rs us up)
    where
      go : (b : Bool) → eqb (first rs) 0 ≡ b → cond b (first ss) (first rs) ≡ cond b (first us) (first rs)
      go true p = h (eqb-true (first rs) 0 p)
      go false p = refl

module _ (s : Replica) (q : Request) (rows : List Row) where
  -- What is asked of a request before its rows are looked at, and of its rows: gathered, and in their list.
  abbrev ahead : Refusals
  ahead = ask_refusals (standing s) q

  abbrev together : Rows
  together = gathered (no_rows s.n s.f q.head.view) rows

  abbrev of_gathered : Refusals
  of_gathered = gathered_refusals together s.n s.f q.head.view q.entry

  abbrev of_list : Refusals
  of_list = row_refusals s.n s.f q.head.view rows q.entry

  -- What setup and 5 leave to the rows is a call that the selection takes.
  call_allowed : first (own_refusals s) ≡ 0 → first ahead ≡ 0 → call_number s.n s.f q.head.view ≡ 0
  unfolding size_number
  call_allowed a b =
      call_after_sizes s.n s.f q.head.view
      ∙ ap (λ k. cond (eqb k 0) (cond (eqb q.head.view.0 0) 5 0) k)
      (front_none (size_refusals s.n s.f) ((3, leb s.n s.seat.0) ∷ (4, not (well_formed s.own)) ∷ []) tt a)
      ∙ alone 5 (eqb q.head.view.0 0) _ b
    where
      alone : (j : ℕ) (c : Bool) (k : ℕ) → cond c j k ≡ 0 → cond c j 0 ≡ 0
      alone j true k z = z
      alone j false k z = refl

  number_alike : number_for s (ahead ++ of_gathered) ≡ number_for s (ahead ++ of_list)
  unfolding number_for
  number_alike =
      alike_behind (own_refusals s) tt (ahead ++ of_gathered) (ahead ++ of_list)
      (λ a. alike_behind ahead tt of_gathered of_list (λ b. gathered_request s.n s.f q.head.view rows q.entry (call_allowed a b)))

pub gathered_asked : (s : Replica) (q : Request) (rows : List Row) → ask_with s q (gathered (no_rows s.n s.f q.head.view) rows) ≡ ask_step s q rows
unfolding ask_with ask_step answered
gathered_asked s q rows = ap (λ k. cond (eqb k 0) (confirming s q) (refused k s)) (number_alike s q rows)
