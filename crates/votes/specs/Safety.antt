-- What the selection leaves open is safe: the paper's lemmas 3.1 to 3.5, over any history that correct seats may have.
use Rattle.std.specs.Prelude.{ℕ, ◌*◌, ◌≤◌, ◌<◌, ◌≡◌, Bool, true, false, ◌&&◌, ◌⊎◌, T, eqb}
use Rattle.std.proofs.Common.{sym, ◌∙◌, subst₂, inl, inr, arith}
use Rattle.std.proofs.Math.Path.{subst}
use Rattle.std.proofs.Math.Bool.{not}
use Rattle.std.proofs.Math.Decide.{ℕ_discrete, dec_lt}
use Rattle.std.proofs.Math.Dec.{T_not}
use Rattle.base.specs.Tests.{and_l, and_r, and_i, T-dec}
use Rattle.entry.specs.declared.Entry.{Entry}
use Rattle.entry.specs.Entry.{same}
use Rattle.entry.specs.Laws.{same_eq, same_refl}
use Rattle.seats.specs.declared.View.{View}
use Rattle.seats.specs.Seats.{leader, count}
use Rattle.seats.specs.Sizes.{quorum}
use Rattle.seats.specs.SizeLaws.{leader_lt}
use Rattle.seats.specs.Count.{count_minus, count_split, count_mono, count_some, count_drop, meet}
use Rattle.seats.specs.Quorums.{House, large, correct_signer}
use Rattle.votes.specs.declared.Vote.{Vote}
use Rattle.votes.specs.declared.Choice.{Choice}
use Rattle.votes.specs.Vote.{valid}
use Rattle.votes.specs.Selection.{is_cast, top_view, is_at, is_other, other_at, rows_for, selection}
use Rattle.votes.specs.Ways.{RowFor, at_row, Twice, Way, waits, blank, alone, forced, free, top_le, few_for, selection_way}
use Rattle.votes.specs.VoteLaws.{valid_below, valid_certificate, valid_marked}
use Rattle.votes.specs.History.{History, Covers, Leaves, Dead, Safe, Honest}
use Rattle.votes.specs.Claims.{Covered}

same_dec : (a b : Entry) → (a ≡ b) ⊎ (a ≡ b → ⊥)
same_dec a b = elim (T-dec (same a b)) [
  | inl t ↦ inl (same_eq a b t)
  | inr t ↦ inr (λ e. T_not (same a b) t (subst (λ z. T (same a z)) e (same_refl a)))
]

module _ {n f : ℕ} {bad : ℕ → Bool} (house : House n f bad) where
  -- A dead entry is not decided: n − f seats cannot all have acknowledged it, even if the faulty ones say they did.
  pub dead_undecided : (h : History) (w : ℕ) (y : Entry) → Dead n f bad h w y → (D : ℕ → Bool) → quorum n f ≤ count D n
      → ((k : ℕ) → k < n → T (D k) → T (not (bad k)) → h.acked k w y) → ⊥
  dead_undecided h w y d D many acks =
      let empty : 0 < count (λ k. false) n → ⊥ = λ l. (count_some (λ k. false) n l).2 in
      let s = meet d.blocks D (λ k. false) n (omega (arith, d.many, large house, house.some)) in
      let k = s.0 in
      d.silent k s.1 s.2 (acks k s.1 s.3 (d.correct k s.1 s.2))

  module _ (small : n ≤ 64) (h : History) (view : View) (honest : Honest n f bad h view.0) (has : ℕ → Bool) (vote : ℕ → Vote)
      (rows : Covered n bad h f view has vote) where
    abbrev v : ℕ
    v = view.0

    abbrev top : ℕ
    top = top_view n f has vote

    abbrev other : ℕ → ℕ → Bool
    other = is_other n f has vote

    -- The rows of `rows_for`.
    abbrev for : ℕ → Entry → ℕ → Bool
    for w y k = other_at n f has vote w k && same (vote k).entry y

    abbrev dead : ℕ → Entry → Type 0
    dead = Dead n f bad h

    abbrev safe : ℕ → Entry → Type 0
    safe = Safe n f bad h

    abbrev row : ℕ → Entry → Type 0
    row = RowFor n has vote

    row_valid : {w : ℕ} {x : Entry} (r : row w x) → T (valid n f view (vote r.seat))
    row_valid r = rows.fine r.seat r.inside r.filled

    -- The entry of a row is safe in the row's view, which is before v: a correct seat confirmed it there.
    row_safe : (w : ℕ) (x : Entry) → row w x → safe w x
    row_safe w x r = subst₂ safe r.at r.is (λ u y p m d.
        let k = r.seat in
        let good = valid_certificate n f view (vote k) (row_valid r) r.cast in
        let s = correct_signer house (vote k).view (vote k).mask small (omega arith) good in
        let said = (rows.claim k r.inside r.filled).signed r.cast s.0 s.1 s.2 s.3 in
        let before = valid_below n f view (vote k) (row_valid r) r.cast in
        honest.sound s.0 s.1 s.3 (vote k).view.0 (vote k).entry (omega arith) said u y p m d)

    -- A correct leader of w proposed it.
    row_led : (w : ℕ) (x : Entry) → row w x → T (not (bad (leader w n))) → h.proposed (leader w n) w x
    row_led w x r = subst₂ (λ u y. T (not (bad (leader u n))) → h.proposed (leader u n) u y) r.at r.is
        ((rows.claim r.seat r.inside r.filled).led r.cast (valid_marked n f view (vote r.seat) (row_valid r) r.cast)
        (valid_below n f view (vote r.seat) (row_valid r) r.cast).0)

    -- Rows of more than f correct seats that do not tell of y in w.
    dead_by : (w : ℕ) (y : Entry) → w < v → (B : ℕ → Bool) → f < count (λ k. B k && not (bad k)) n → ((k : ℕ) → k < n → T (B k) → T (has k))
        → ((k : ℕ) → k < n → T (B k) → Covers (vote k) w y → ⊥) → dead w y
    dead_by w y l B many filled mute = record {
      blocks = λ k. B k && not (bad k);
      many = many;
      correct = λ k m t. and_r (B k) (not (bad k)) t;
      left = λ k m t. omega (arith, (told k m t).0);
      silent = λ k m t a. mute k m (and_l (B k) (not (bad k)) t) ((told k m t).1 w y l a);
    }
      where
        told : (k : ℕ) → k < n → T (B k && not (bad k)) → (v ≤ h.view k) × ((w : ℕ) (e : Entry) → w < v → h.acked k w e → Covers (vote k) w e)
        told k m t =
            let o = and_r (B k) (not (bad k)) t in
            honest.tells k m o v (vote k) ((rows.claim k m (filled k m (and_l (B k) (not (bad k)) t))).said tt m o)

    -- A row that tells of y in the highest view is at it, and for y.
    abbrev told_top : (y : Entry) (k : ℕ) → k < n → T (has k) → Covers (vote k) top y → row top y
    told_top y k l t c =
        let e : top ≡ (vote k).view.0 = omega (arith, c.up, top_le n f has vote k l (and_i (has k) (vote k).cast t c.cast)) in
        record { seat = k; inside = l; filled = t; cast = c.cast; at = sym e; is = sym (c.same e) }

    -- ---- by all rows
    module _ (enough : quorum n f ≤ count has n) where
      dead_by_all : (w : ℕ) (y : Entry) → w < v → ((k : ℕ) → k < n → T (has k) → Covers (vote k) w y → ⊥) → dead w y
      dead_by_all w y l = dead_by w y l has (omega (arith, count_minus has bad n, house.few, large house, house.some)) (λ k m t. t)

      -- Lemma 3.2: no row tells of a view above the highest, so safety is a matter of that view and those below it.
      up_to_top : (x : Entry) → ((w : ℕ) (y : Entry) → 1 ≤ w → w < top → (y ≡ x → ⊥) → dead w y)
          → (top < v → (y : Entry) → (y ≡ x → ⊥) → dead top y) → safe v x
      up_to_top x below here w y p l d = elim (dec_lt w top) [
        | yes m ↦ below w y p m d
        | no m ↦ elim (ℕ_discrete w top) [
          | yes e ↦ subst (λ u. dead u y) (sym e) (here (omega arith) y d)
          | no e ↦ dead_by_all w y l (λ k q t c. omega (arith, c.up, top_le n f has vote k q (and_i (has k) (vote k).cast t c.cast)))
        ]
      ]

    -- ---- by rows of others: "the leader q of w proposed twice"
    module _ (w : ℕ) (two : Twice n has vote w) where
      leader_in : leader w n < n
      leader_in = leader_lt w n (omega (arith, large house, house.some))

      faulty : T (bad (leader w n))
      faulty = elim (T-dec (bad (leader w n))) [
        | inl t ↦ t
        | inr t ↦
            let p = row_led w two.x two.for_x t in
            let q = row_led w two.y two.for_y t in
            absurd (two.differ (honest.once (leader w n) leader_in t w two.x two.y p q))
      ]

      -- One of the two entries is not y, and it is safe in w.
      below_two : (u : ℕ) (y : Entry) → 1 ≤ u → u < w → dead u y
      below_two u y p l = elim (same_dec y two.x) [
        | inl e ↦ row_safe w two.y two.for_y u y p l (λ d. two.differ (sym e ∙ d))
        | inr d ↦ row_safe w two.x two.for_x u y p l d
      ]

      -- 2f of them will do: as q is faulty, at most f − 1 others are.
      dead_by_others : (y : Entry) → w < v → (B : ℕ → Bool) → 2 * f ≤ count B n → ((k : ℕ) → k < n → T (B k) → T (other w k))
          → ((k : ℕ) → k < n → T (B k) → Covers (vote k) w y → ⊥) → dead w y
      dead_by_others y l B many others =
          dead_by w y l B (omega (arith, count_minus B rest n, count_drop bad (leader w n) n leader_in faulty, house.few, correct))
          (λ k m t. and_l (has k) _ (others k m t))
        where
          rest : ℕ → Bool
          rest k = bad k && not (eqb k (leader w n))

          drop_and : (a b : Bool) → T (not (a && b)) → T b → T (not a)
          drop_and true true t u = t
          drop_and true false t u = u
          drop_and false b t u = tt

          correct : count (λ k. B k && not (rest k)) n ≤ count (λ k. B k && not (bad k)) n
          correct = count_mono _ _ n (λ k m t.
              let b = and_l (B k) (not (rest k)) t in
              and_i (B k) (not (bad k)) b (drop_and (bad k) _ (and_r (B k) (not (rest k)) t) (and_r (has k) _ (others k m b))))

    -- ---- the rows of others at the highest view that are for y
    for_other : (y : Entry) (k : ℕ) → T (for top y k) → T (other top k)
    for_other y k t =
        let o = and_l (other_at n f has vote top k) _ t in
        let c = and_l (is_cast n f has vote k) _ (and_l (is_at n f has vote top k) _ o) in
        and_i (has k) _ (and_l (has k) (vote k).cast c) (and_r (is_at n f has vote top k) _ o)

    other_for : (y : Entry) (k : ℕ) → k < n → T (other top k) → Covers (vote k) top y → T (for top y k)
    other_for y k l o c =
        let e = told_top y k l (and_l (has k) _ o) c in
        and_i (other_at n f has vote top k) _ (and_i (is_at n f has vote top k) _ (at_row n f has vote top y e) (and_r (has k) _ o))
        (subst (λ z. T (same (vote k).entry z)) e.is (same_refl (vote k).entry))

    -- ---- each way to an answer that leaves x open
    way_safe : (c : Choice) → Way n f has vote top c → (x : Entry) → Leaves c x → safe v x
    unfolding rows_for
    way_safe c waits x o = absurd o
    -- Lemma 3.1: no vote tells of any acknowledgement.
    way_safe c (blank enough nil) x o = λ w y p l d. dead_by_all enough w y l (λ k m t c. nil k m t c.cast)
    -- Lemma 3.3: the rows tell of one entry only at the highest view.
    way_safe c (alone enough z r one) x o =
        subst (safe v) o (up_to_top enough z (row_safe top z r) (λ l y d.
        dead_by_all enough top y l (λ k m t c. d (one y (told_top y k m t c)))))
    -- Lemma 3.4: 2f rows of others tell of z there, and so of no other entry.
    way_safe c (forced enough two z r many) x o =
        subst (safe v) o (up_to_top enough z (row_safe top z r) (λ l y d.
        dead_by_others top two y l (for top z) (omega (arith, many)) (λ k m t. for_other z k t) (λ k m t c.
        let e = told_top y k m (and_l (has k) _ (for_other z k t)) c in
        d (sym e.is ∙ same_eq (vote k).entry z (and_r (other_at n f has vote top k) _ t)))))
    -- Lemma 3.5: of the n − f rows of others fewer than 2f tell of y there, so 2f do not.
    way_safe c (free enough two many few) x o =
        up_to_top enough x (λ u y p l d. below_two top two u y p l) (λ l y d.
        let split = count_split (other top) (for top y) n in
        let fewer = few_for n f has vote top few house.some y in
        let at_most = count_mono (λ k. other top k && for top y k) (for top y) n (λ k m. and_r (other top k) (for top y k)) in
        dead_by_others top two y l (λ k. other top k && not (for top y k)) (omega (arith, large house, house.some)) (λ k m t. and_l (other top k) _ t) (λ k m t c.
        T_not (for top y k) (and_r (other top k) _ t) (other_for y k m (and_l (other top k) _ t) c)))

    pub selection_safe : (x : Entry) → Leaves (selection n f has vote) x → Safe n f bad h view.0 x
    selection_safe = way_safe (selection n f has vote) (selection_way n f has vote)
