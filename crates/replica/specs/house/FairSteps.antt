-- Every step of a seat is fair: what it says anew is timely and safe, and what it reports has a quorum.
use Prim.Native.Nat.{ℕ, ◌≤◌, ◌<◌}
use Rattle.std.specs.Prelude.{◌≡◌, refl, Bool, not, List, [], ◌∷◌, T, eqb, leb}
use Rattle.std.proofs.Common.{sym, subst₂, le_refl, le_of_eq, le_of_lt, arith}
use Rattle.std.proofs.Math.Dec.{leb→le}
use Rattle.base.specs.Tests.{and_l}
use Rattle.base.specs.Refusal.{Refusals}
use Rattle.base.specs.RefusalLaws.{Clear, clear_behind, none_both, unless}
use Rattle.entry.specs.declared.Entry.{Entry}
use Rattle.seats.specs.Sizes.{size_refusals, size_number, quorum}
use Rattle.seats.specs.SizeLaws.{Allowed, sizes_taken}
use Rattle.seats.specs.Certificate.{good_certificate}
use Rattle.seats.specs.Quorums.{House, correct_signer}
use Rattle.acks.specs.Acks.{row_of, sharing}
use Rattle.votes.specs.declared.Vote.{Vote}
use Rattle.votes.specs.declared.Row.{Row}
use Rattle.votes.specs.Request.{row_refusals}
use Rattle.votes.specs.History.{Covers, Safe, Honest}
use Rattle.votes.specs.RequestSafety.{request_safe}
use Rattle.messages.specs.declared.Assent.{Assent}
use Rattle.messages.specs.declared.Proposal.{Proposal}
use Rattle.messages.specs.declared.Request.{Request}
use Rattle.messages.specs.declared.Message.{Message}
use Rattle.messages.specs.declared.Message.TheVariants.{Propose, Acknowledge, Ask}
use Rattle.replica.specs.declared.Replica.{Replica}
use Rattle.replica.specs.declared.Step.{Step}
use Rattle.replica.specs.Ordered.{refusals_of}
use Rattle.replica.specs.Refusals.{ask_refusals}
use Rattle.replica.specs.Replica.{standing}
use Rattle.replica.specs.Steps.{ack_row, rowed, decides, step}
use Rattle.replica.specs.house.Claims.{proposes, acknowledges, votes, confirms, whole, said, signed, in_rows, claims}
use Rattle.replica.specs.house.Runs.{Member, Members, Among, all_said, sent_by, Setting, Covered}
use Rattle.replica.specs.house.Kept.{Seated}
use Rattle.replica.specs.house.Outcomes.{Taken, enter_later, head_within, head_marked, head_here, proposal_good}
use Rattle.replica.specs.house.Outcomes.{Outcome, refuse, start, enter, accept, note, decide, fill, ask, confirm, add, propose, outcome}
use Rattle.replica.specs.house.ClaimLaws.{Each, each_all, each_behind, mark_passes, bit_passes}
use Rattle.replica.specs.house.Histories.{view_of, history_of, Told, rows_told}
use Rattle.replica.specs.house.Invariant.{Quorum, RowsSaid, Fine, Holds, Fair, by_seat, said_backed, rows_with, rows_quorum}
use Rattle.replica.specs.house.Proposing.{proposed_once}
use Rattle.replica.specs.house.Voting.{covers_whole}

-- The seats keep to what the selection's theorems ask of them.
holds_honest : (n f : ℕ) (faulty : ℕ → Bool) (h : Members) → Holds n f faulty h → (v : ℕ) → Honest n f faulty (history_of h) v
holds_honest n f faulty h holds v = record {
  tells = λ k l o. by_seat n f faulty h holds
      (λ p. (u : ℕ) (x : Vote) → Among (k, votes (record { 0 = u }) (whole x)) (all_said (sent_by p))
      → (u ≤ view_of p) × ((w : ℕ) (e : Entry) → w < u → Among (k, acknowledges (record { 0 = w }) e) (all_said (sent_by p)) → Covers x w e))
      k (λ u x a. absurd a) (λ m i u x a.
      let t = i.kept.voting.voted (record { 0 = u }) (whole x) a in
      (t.0, λ w e l b. covers_whole x w e (t.1 (record { 0 = w }) e l b)));
  once = λ k l o. by_seat n f faulty h holds
      (λ p. (u : ℕ) (x y : Entry) → Among (k, proposes (record { 0 = u }) x) (all_said (sent_by p))
      → Among (k, proposes (record { 0 = u }) y) (all_said (sent_by p)) → x ≡ y)
      k (λ u x y a. absurd a) (λ m i u. proposed_once k m.replica (all_said m.sent) i.kept.leading (record { 0 = u }));
  sound = λ k l o u x m. said_backed n f faulty h holds (k, confirms (record { 0 = u }) x);
}

module _ (n f : ℕ) (faulty : ℕ → Bool) (setting : Setting n f faulty) where
  -- What the rules allow of n and f, and that few seats are faulty.
  pub setting_sizes : Allowed n f
  unfolding size_number
  setting_sizes = sizes_taken n f setting.allowed

  pub setting_house : House n f faulty
  setting_house = record { some = setting_sizes.some; fits = setting_sizes.fits; few = setting.few }

  module _ (h : Members) (holds : Holds n f faulty h) (k : ℕ) (m : Member) (x : Fine n f faulty h k m) where
    abbrev s : Replica
    s = m.replica

    -- `Covered`, claim by claim.
    abbrev Hears : Message → List Row → Type 0
    Hears message rows = Each (Told n f faulty h) (claims n message rows)

    seated : Seated n f k s
    seated = x.kept.seated

    -- P: the certificate of a later view has a correct signer, and what that seat confirmed is safe.
    accepted_safe : (p : Proposal) → Hears (Propose p) [] → Taken s (Propose p) []
        → Safe n f faulty (history_of h) p.head.view.0 p.entry
    accepted_safe p told taken w y some l d =
        let v = p.head.view in
        let good = subst₂ (λ a b. T (good_certificate a b v p.mask)) seated.same_n seated.same_f (proposal_good s p taken) in
        let c = correct_signer setting_house v p.mask setting_sizes.most (omega arith) good in
        let bits = each_behind (Told n f faulty h) (said (Propose p)) (signed n v p.entry p.mask) told in
        let word = bit_passes (Told n f faulty h) n v p.entry p.mask bits c.0 c.1 c.2 (c.1, c.3) in
        said_backed n f faulty h holds (c.0, confirms v p.entry) word w y some l d

    -- Q: what its rows leave open is safe.
    confirmed_safe : (q : Request) (rows : List Row) → Hears (Ask q) rows → Taken s (Ask q) rows
        → Safe n f faulty (history_of h) q.head.view.0 q.entry
    confirmed_safe q rows told taken =
        let v = q.head.view in
        let later : ℕ → ℕ → Refusals = λ a b. row_refusals a b v rows q.entry in
        let some = unless 5 (refusals_of s (Ask q) rows) taken in
        let call = none_both (size_refusals n f) ((5, eqb v.0 0) ∷ []) tt setting.allowed (some, tt) in
        let fit = subst₂ (λ a b. Clear (later a b)) seated.same_n seated.same_f
        (clear_behind (ask_refusals (standing s) q) (later s.n s.f) taken) in
        let inside = each_behind (Told n f faulty h) (said (Ask q)) (in_rows n rows) told in
        let words = rows_told n f faulty h (omega (arith, setting_sizes.least)) rows inside in
        request_safe n f faulty (history_of h) v setting.few (holds_honest n f faulty h holds v.0) call rows words q.entry fit

    -- A: the row that is written is its seat's own word,
    noted_rows : (a : Assent) → Hears (Acknowledge a) [] → Taken s (Acknowledge a) []
        → RowsSaid n f faulty h (rowed s a).acks
    noted_rows a told taken =
        let within = head_within s (Acknowledge a) a.head refl taken in
        let marked = head_marked s (Acknowledge a) a.head refl taken in
        let own = mark_passes (Told n f faulty h) a.head (acknowledges a.head.view a.entry) marked told in
        rows_with n f faulty h s.acks a.head.seat.0 (ack_row a) (omega (arith, within, seated.same_n, setting_sizes.most))
        seated.entries seated.views x.rows own

    -- and n − f rows that share it are a quorum.
    decided_quorum : (a : Assent) → RowsSaid n f faulty h (rowed s a).acks → T (decides (rowed s a) a) → Quorum n f faulty h a.entry
    unfolding decides
    decided_quorum a said d =
        let shared : ℕ → ℕ = λ b. sharing b (row_of (rowed s a).acks) (ack_row a) in
        let enough = leb→le (quorum s.n s.f) (shared s.n) (and_l (leb (quorum s.n s.f) (shared s.n)) (not s.decided) d) in
        rows_quorum n f faulty h (rowed s a).acks (ack_row a) said (subst₂ (λ b c. quorum b c ≤ shared b) seated.same_n seated.same_f enough)

    -- P and Q alone say what must be safe, and A alone writes a row or reports.
    fair_outcome : {message : Message} {rows : List Row} {t : Step} → Outcome s rows message t → Hears message rows → Fair n f faulty h s t
    fair_outcome (refuse number) told = record { up = le_refl _; rows = x.rows; says = tt; reports = tt }
    fair_outcome (start c) told = record { up = le_refl _; rows = x.rows; says = ((tt, tt), tt); reports = tt }
    fair_outcome (enter v c) told = record { up = le_of_lt (enter_later s v c); rows = x.rows; says = ((tt, tt), tt); reports = tt }
    fair_outcome (accept p c) told =
        let now = le_of_eq (sym (head_here s (Propose p) p.head refl c)) in
        record { up = le_refl _; rows = x.rows; says = ((now, accepted_safe p told c), tt); reports = tt }
    fair_outcome (note a c) told = record { up = le_refl _; rows = noted_rows a told c; says = tt; reports = tt }
    fair_outcome (decide a c d) told =
        let rows = noted_rows a told c in
        record { up = le_refl _; rows = rows; says = tt; reports = (decided_quorum a rows d, tt) }
    fair_outcome (fill r c) told = record { up = le_refl _; rows = x.rows; says = tt; reports = tt }
    fair_outcome (ask r e c d) told = record { up = le_refl _; rows = x.rows; says = ((tt, tt), tt); reports = tt }
    fair_outcome {rows = rows} (confirm q c) told =
        record { up = le_refl _; rows = x.rows; says = ((tt, confirmed_safe q rows told c), tt); reports = tt }
    fair_outcome (add a c) told = record { up = le_refl _; rows = x.rows; says = tt; reports = tt }
    fair_outcome (propose a c d) told = record { up = le_refl _; rows = x.rows; says = ((tt, tt), tt); reports = tt }

    pub fair : (message : Message) (rows : List Row) → Covered n faulty h message rows
        → Fair n f faulty h m.replica (step m.replica message rows)
    fair message rows told = fair_outcome (outcome s rows message) (each_all (Told n f faulty h) (claims n message rows) told)
