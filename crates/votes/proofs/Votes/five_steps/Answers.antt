use Prim.Native.Nat.{ℕ, ◌≤◌, ◌<◌, ◌-◌, ◌*◌}
use mathlib.Core.Path.{◌≡◌, refl, sym, ap, ◌∙◌, subst}
use mathlib.Core.Bool.{Bool, ◌&&◌, cond}
use native.Mathlib.Omega.{arith}
use native.Mathlib.Nat.{lt_of_lt_of_le}
use lib.Dec.{eqb, leb}
use lib.ListN.{get_or}
use Rattle.seats.specs.Seats.{highest}
use lib.Count.{count_trailing_zeros}
use lib.Bits.{bit_and}
use borrow.Author.Tests.{not-true, not-false}
use Rattle.seats.specs.declared.Seat.{Seat}
use Rattle.seats.specs.Seats.{leader, leader_of}
use Rattle.seats.specs.SizeLaws.{leader_lt}
use Rattle.seats.specs.Mask.{bit, mask, seats_in, with_seat}
use Rattle.seats.specs.Marks.{Marks, rows_is, marks_of, marks_ext, marks_and, marks_seat, marks_without}
use Rattle.votes.specs.declared.Vote.{Vote}
use Rattle.votes.specs.declared.Choice.{Choice}
use Rattle.votes.specs.Selection.{is_at, is_other, smallest}
use Rattle.votes.specs.Rows.{vote_at}
use Rattle.entry.specs.Table.{entry_at}
use Rattle.votes.proofs.Pairs.{two}
use Rattle.votes.specs.declared.Votes.{Votes}
use Rattle.entry.specs.Entry.{same}
use Rattle.votes.proofs.Masked.{Counted, Topped, waits_few, frees, first_low, forces, waits_others, settles}
use Rattle.std.proofs.Common.{not}
use Rattle.votes.proofs.Votes.five_steps.Goals as goal
use Rattle.votes.proofs.Votes.five_steps.Goals.{After-at_view-top, After-two_among, After-without-others, Else-seats_in-quorum, Start}

-- What the code asks of the rows of a mask, over m seats.
abbrev view : ℕ → Votes → ℕ → ℕ
view rows t k = cond (bit rows k) (get_or t.views k 0) 0

abbrev backed : ℕ → Votes → ℕ → ℕ → ℕ → Bool
backed rows t m need k = bit rows k && leb need (seats_in (mask (λ j. bit rows j && same (entry_at t.entries j) (entry_at t.entries k)) m))

abbrev vote : Start → ℕ → Vote
vote s = vote_at s.args.self.now

these : (s : Start) → Marks s.args.n s.args.rows (bit s.args.rows)
these s = record { below = s.requires.2; at = λ k h. refl }

-- What is known behind step 1, and behind step 2.
counted : (c : Else-seats_in-quorum) → Counted c.args.n c.args.f (bit c.args.rows) (vote (goal.at.Else-seats_in-quorum c).Start)
unfolding vote_at
counted c =
    record {
      rows = c.args.rows;
      these = these (goal.at.Else-seats_in-quorum c).Start;
      enough = omega (arith, c.quorum-quorum.ensures, c.seats_in.ensures, c.if-seats_in-quorum.false);
      votes = bit_and c.args.rows c.args.self.now.cast;
      cast = marks_and c.args.n c.args.rows c.args.self.now.cast (bit c.args.rows) (bit c.args.self.now.cast) (these (goal.at.Else-seats_in-quorum c).Start) (λ k h. refl);
    }

topped : (c : After-at_view-top) → Topped c.args.n c.args.f (bit c.args.rows) (vote (goal.at.After-at_view-top c).Start)
unfolding vote_at counted
topped c =
    let known = counted (goal.at.After-at_view-top c).Else-seats_in-quorum in
    let t = c.args.self.now in
    let votes = bit_and c.args.rows t.cast in
    let all = rows_is c.args.n c.requires.1 in
    record {
      counted = known;
      some = c.if-votes-eq0.false;
      w = c.top_view-w.result;
      highest_is = c.top_view-w.ensures ∙ ap (highest (view votes t)) all;
      top = c.at_view-top.result;
      at_top_lem =
          marks_ext (is_at c.args.n c.args.f (bit c.args.rows) (vote (goal.at.After-at_view-top c).Start) c.top_view-w.result) (marks_of c.args.n c.at_view-top.result _ (c.at_view-top.ensures ∙ ap (mask (λ k. bit votes k && eqb (get_or t.views k 0) c.top_view-w.result)) all))
          (λ k l. ap (λ x. x && eqb (vote (goal.at.After-at_view-top c).Start k).view.0 c.top_view-w.result) (known.cast.at k l));
    }

-- Whether two of them differ, over the n seats.
differs : (c : After-two_among) → c.two_among.result ≡ two c.args.n (bit c.at_view-top.result) (entry_at c.args.self.now.entries)
differs c =
    c.two_among.ensures ∙ ap (λ m. two m (bit c.at_view-top.result) (entry_at c.args.self.now.entries)) (rows_is c.args.n c.requires.1)

-- The first of the rows at w is a row.
low_first : (c : After-two_among) → count_trailing_zeros 64 c.at_view-top.result < 64
unfolding topped
low_first c =
    lt_of_lt_of_le (first_low c.args.n c.args.f (bit c.args.rows) (vote (goal.at.After-two_among c).Start) c.requires.1 (topped (goal.at.After-two_among c).After-at_view-top)) c.requires.1

-- The mask of w's leader alone.
alone : (n w m : ℕ) (q : Seat) → 0 < n → n ≤ 64 → q ≡ leader_of (record { 0 = w }) n → m ≡ with_seat 0 q.0 → Marks n m (λ k. eqb k (leader w n))
alone n w m q h l e d =
    subst (λ x. Marks n x (λ k. eqb k (leader w n))) (sym (d ∙ ap (λ (x : Seat). with_seat 0 x.0) e)) (marks_seat n (leader w n) (leader_lt w n h) l)

liar_marks : (c : After-without-others) →
    Marks c.args.n c.with_seat-liar.result (λ k. eqb k (leader c.top_view-w.result c.args.n))
liar_marks c =
    alone c.args.n c.top_view-w.result c.with_seat-liar.result c.leader.result c.requires.0 c.requires.1 c.leader.ensures c.with_seat-liar.ensures

others : (c : After-without-others) →
    Marks c.args.n c.without-others.result (is_other c.args.n c.args.f (bit c.args.rows) (vote (goal.at.After-without-others c).Start) c.top_view-w.result)
others c =
    let liar = liar_marks c in
    marks_without c.args.n c.args.rows c.with_seat-liar.result c.without-others.result (bit c.args.rows) (λ k. eqb k (leader c.top_view-w.result c.args.n))
    (these (goal.at.After-without-others c).Start) liar.below liar.at c.without-others.ensures

pub returns-then-seats_in-quorum : goal.returns-then-seats_in-quorum
returns-then-seats_in-quorum c =
    let few : seats_in c.args.rows < c.args.n - c.args.f = omega (arith, c.quorum-quorum.ensures, c.seats_in.ensures, c.if-seats_in-quorum.true) in
    waits_few c.args.n c.args.f (bit c.args.rows) (vote (goal.at.returns-then-seats_in-quorum c).Start) c.requires.1 c.args.rows (bit c.args.rows) (these (goal.at.returns-then-seats_in-quorum c).Start) (λ k t. t) few

pub returns-then-votes-eq0 : goal.returns-then-votes-eq0
unfolding counted
returns-then-votes-eq0 c = frees c.args.n c.args.f (bit c.args.rows) (vote (goal.at.returns-then-votes-eq0 c).Start) c.requires.1 (counted (goal.at.returns-then-votes-eq0 c).Else-seats_in-quorum) c.if-votes-eq0.true

pub returns-then-not-two_among : goal.returns-then-not-two_among
unfolding vote_at topped
returns-then-not-two_among c = ap Choice.Forced c.entry_at.ensures
    ∙ forces c.args.n c.args.f (bit c.args.rows) (vote (goal.at.returns-then-not-two_among c).Start) c.requires.1 (topped (goal.at.returns-then-not-two_among c).After-at_view-top) c.two_among.result (differs (goal.at.returns-then-not-two_among c).After-two_among) (not-true _ (ap not c.if-not-two_among.true))

pub returns-then-seats_in-quorum-2 : goal.returns-then-seats_in-quorum-2
unfolding vote_at topped
returns-then-seats_in-quorum-2 c =
    let few : seats_in c.without-others.result < c.args.n - c.args.f = omega (arith, c.quorum-quorum.ensures, c.seats_in-2.ensures, c.if-seats_in-quorum-2.true) in
    waits_others c.args.n c.args.f (bit c.args.rows) (vote (goal.at.returns-then-seats_in-quorum-2 c).Start) c.requires.1 (topped (goal.at.returns-then-seats_in-quorum-2 c).After-at_view-top) c.two_among.result (differs (goal.at.returns-then-seats_in-quorum-2 c).After-two_among) (not-false _ (ap not c.if-not-two_among.false))
    c.without-others.result (others (goal.at.returns-then-seats_in-quorum-2 c).After-without-others) few

pub returns : goal.returns
unfolding vote_at topped
returns c =
    let n = c.args.n in
    let w = c.top_view-w.result in
    let enough : n - c.args.f ≤ seats_in c.without-others.result = omega (arith, c.quorum-quorum.ensures, c.seats_in-2.ensures, c.if-seats_in-quorum-2.false) in
    let liar = liar_marks (goal.at.returns c).After-without-others in
    c.forced_to.ensures
    ∙ settles n c.args.f (bit c.args.rows) (vote (goal.at.returns c).Start) c.requires.1 (topped (goal.at.returns c).After-at_view-top) c.two_among.result (differs (goal.at.returns c).After-two_among) (not-false _ (ap not c.if-not-two_among.false))
    c.without-others.result (others (goal.at.returns c).After-without-others) enough c.without.result
    (marks_without n c.at_view-top.result c.with_seat-liar.result c.without.result (is_at n c.args.f (bit c.args.rows) (vote (goal.at.returns c).Start) w) (λ k. eqb k (leader w n))
    (topped (goal.at.returns c).After-at_view-top).at_top_lem liar.below liar.at c.without.ensures)
    c.smallest_backed.result
    (c.smallest_backed.ensures ∙ ap (λ m. smallest (backed c.without.result c.args.self.now m (2 * c.args.f)) (entry_at c.args.self.now.entries) m) (rows_is n c.requires.1))
