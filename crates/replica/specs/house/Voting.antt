-- Every step keeps `Voting` of Kept.antt: the vote held goes on telling of all that was acknowledged.
use Rattle.std.specs.Prelude.{ℕ, ◌≤◌, ◌<◌, ◌≡◌, refl, Bool, true, false, List, [], ◌∷◌, ◌++◌, ◌⊎◌, T}
use Rattle.std.proofs.Common.{sym, ap, ◌∙◌, subst, inl, inr, le_refl, le_of_lt, arith}
use Rattle.base.specs.Tests.{true_is}
use Rattle.entry.specs.declared.Entry.{Entry}
use Rattle.seats.specs.declared.Seat.{Seat}
use Rattle.seats.specs.declared.View.{View}
use Rattle.votes.specs.declared.Vote.{Vote}
use Rattle.votes.specs.declared.Row.{Row}
use Rattle.votes.specs.History.{Covers}
use Rattle.messages.specs.declared.Message.{Message}
use Rattle.messages.specs.Lines.{tidy_vote}
use Rattle.messages.specs.declared.Message.TheVariants.{Propose}
use Rattle.messages.specs.declared.Proposal.{Proposal}
use Rattle.replica.specs.declared.Replica.{Replica}
use Rattle.replica.specs.declared.Step.{Step}
use Rattle.replica.specs.Replica.{fresh, with_vote}
use Rattle.replica.specs.Steps.{vote_for, step}
use Rattle.replica.specs.house.Outcomes.{enter_later, head_here, proposal_new}
use Rattle.replica.specs.house.Outcomes.{Outcome, refuse, start, enter, accept, note, decide, fill, ask, confirm, add, propose, outcome}
use Rattle.replica.specs.house.Claims.{Statement, proposes, acknowledges, votes, asks, confirms, Claim, whole}
use Rattle.replica.specs.house.ClaimLaws.{Each, each_or}
use Rattle.replica.specs.house.Kept.{Seated, Voting}
use Rattle.replica.specs.house.Runs.{Member, after, Among, all_said}

-- ---- the whole vote tells what the vote tells

-- nil tells of nothing, whatever stands beside it.
pub covers_whole : (x : Vote) (w : ℕ) (e : Entry) → Covers (whole x) w e → Covers x w e
covers_whole x w e = go x.cast
  where
    go : (b : Bool) → Covers (tidy_vote b x) w e → Covers x w e
    go true c = c
    go false c = absurd c.cast

-- A vote that tells of something is not nil.
whole_covers : (x : Vote) (w : ℕ) (e : Entry) → Covers x w e → Covers (whole x) w e
whole_covers x w e c = subst (λ y. Covers y w e) (sym (ap (λ b. tidy_vote b x) (true_is x.cast c.cast))) c

-- ---- setup: a fresh replica has said nothing and holds nil
pub voting_begun : (k n f : ℕ) (seat : Seat) (own : Entry) → Voting k (fresh n f seat own) []
voting_begun k n f seat own = record { behind = λ t. absurd t; acked = λ w e h. absurd h; once = λ w x y h. absurd h; voted = λ u x h. absurd h }

-- ---- the events

-- What may be said beside a vote that is held: no A, and a V only for a view come to, which tells all that the vote tells.
abbrev Beside : Replica → Statement → Type 0
Beside t (proposes v e) = Unit {0}
Beside t (acknowledges v e) = ⊥
Beside t (votes v x) = (v.0 ≤ t.view.0) × ((w : ℕ) (e : Entry) → Covers t.vote w e → Covers x w e)
Beside t (asks v e) = Unit {0}
Beside t (confirms v e) = Unit {0}

module _ (n f k : ℕ) (m : Member) (seated : Seated n f k m.replica) (i : Voting k m.replica (all_said m.sent)) where
  abbrev s : Replica
  s = m.replica

  abbrev xs : List Claim
  xs = all_said m.sent

  -- The same vote, in the same view or a later one, and what may be said beside it.
  vote_held : (t : Replica) (zs : List Claim) → t.vote ≡ s.vote → s.view.0 ≤ t.view.0 → Each (λ c. Beside t c.1) zs → Voting k t (zs ++ xs)
  vote_held t zs q up beside = record {
    behind = rw q (λ h. omega (arith, i.behind h));
    acked = λ w e h. let a = i.acked w e (before w e h) in (a.0, omega arith, told w e h);
    once = λ w x y g h. i.once w x y (before w x g) (before w y h);
    voted = λ u x h. elim (each_or _ (k, votes u x) zs xs beside h) [
      | inl a ↦ (a.0, λ w e l g. a.1 w.0 e (told w e g))
      | inr b ↦ let a = i.voted u x b in (omega arith, λ w e l g. a.1 w e l (before w e g))
    ];
  }
    where
      -- No A is said, so each acknowledgement was there before.
      before : (w : View) (e : Entry) → Among (k, acknowledges w e) (zs ++ xs) → Among (k, acknowledges w e) xs
      before w e h = elim (each_or _ (k, acknowledges w e) zs xs beside h) [ inl b ↦ absurd b | inr b ↦ b ]

      told : (w : View) (e : Entry) → Among (k, acknowledges w e) (zs ++ xs) → Covers t.vote w.0 e
      told w e h = subst (λ x. Covers x w.0 e) (sym q) (i.acked w e (before w e h)).2

  -- A new vote, of the current view, where the vote held was not of this view; and its A.
  vote_new : (p : Proposal) → p.head.view.0 ≡ s.view.0 → (T s.vote.cast → s.vote.view.0 ≡ p.head.view.0 → ⊥)
      → Voting k (with_vote s (vote_for p)) ((s.seat.0, acknowledges p.head.view p.entry) ∷ xs)
  vote_new p here new = record {
    behind = λ t. omega (arith, here);
    acked = λ w e h. elim (latest w e h) [
      | inl a ↦ (omega (arith, a.0), omega (arith, a.0), record { cast = tt; up = omega (arith, a.0); same = λ q. a.1 })
      | inr a ↦ let b = i.acked w e a.1 in (b.0, b.1, record { cast = tt; up = omega (arith, a.0); same = λ q. absurd (omega (arith, a.0)) })
    ];
    once = λ w x y g h. elim (latest w x g) [
      | inl a ↦ elim (latest w y h) [ inl b ↦ a.1 ∙ sym b.1 | inr b ↦ absurd (omega (arith, a.0, b.0)) ]
      | inr a ↦ elim (latest w y h) [ inl b ↦ absurd (omega (arith, a.0, b.0)) | inr b ↦ i.once w x y a.1 b.1 ]
    ];
    voted = λ u x. elim [
      | inl q ↦ let r = ap (λ c. c.1) q in absurd (let z : ◌≡◌ {A = ℕ} 0 1 = cc in omega arith)
      | inr g ↦
          let a = i.voted u x g in
          (a.0, λ w e l h. elim (latest w e h) [ inl b ↦ absurd (omega (arith, a.0, b.0)) | inr b ↦ a.1 w e l b.1 ])
    ];
  }
    where
      -- An acknowledgement is this one, or of a view before: its view is not above that of the vote held.
      latest : (w : View) (e : Entry) → Among (k, acknowledges w e) ((s.seat.0, acknowledges p.head.view p.entry) ∷ xs)
          → ((w.0 ≡ p.head.view.0) × (e ≡ p.entry)) ⊎ ((w.0 < p.head.view.0) × Among (k, acknowledges w e) xs)
      latest w e (inl q) = let r = ap (λ c. c.1) q in inl (cc, cc)
      latest w e (inr h) = let a = (i.acked w e h).2 in inr (omega (arith, a.up, i.behind a.cast, new a.cast), h)

  -- P alone changes the vote, and E sends it.
  voting_outcome : {message : Message} {rows : List Row} {t : Step} → Outcome s rows message t → Voting k t.next (all_said (after m t).sent)
  voting_outcome (refuse number) = i
  voting_outcome (start c) = vote_held _ (_ ∷ []) refl (le_refl _) (tt, tt)
  voting_outcome (enter v c) = vote_held _ (_ ∷ []) refl (le_of_lt (enter_later s v c)) ((le_refl _, whole_covers s.vote), tt)
  voting_outcome (accept p c) = vote_new p (head_here s (Propose p) p.head refl c) (proposal_new s p c)
  voting_outcome (note a c) = vote_held _ [] refl (le_refl _) tt
  voting_outcome (decide a c d) = vote_held _ [] refl (le_refl _) tt
  voting_outcome (fill r c) = vote_held _ [] refl (le_refl _) tt
  voting_outcome (ask r e c d) = vote_held _ (_ ∷ []) refl (le_refl _) (tt, tt)
  voting_outcome (confirm q c) = vote_held _ (_ ∷ []) refl (le_refl _) (tt, tt)
  voting_outcome (add a c) = vote_held _ [] refl (le_refl _) tt
  voting_outcome (propose a c d) = vote_held _ (_ ∷ []) refl (le_refl _) (tt, tt)

  pub voting_step : (message : Message) (rows : List Row)
      → Voting k (step m.replica message rows).next (all_said (after m (step m.replica message rows)).sent)
  voting_step message rows = voting_outcome (outcome s rows message)
