-- Laws of lists whose every member passes a test, and of claims that do: in a mask, in a vote and in the rows of a leader's table.
use Prim.Native.Nat.{ℕ, zero, suc, ◌<◌}
use Rattle.std.proofs.Math.Path.{◌≡◌, ap}
use Rattle.std.specs.Prelude.{refl, Bool, true, false, ◌&&◌, ◌||◌, cond, List, [], ◌∷◌, ◌++◌, ◌⊎◌, T, eqb, leb, ltb, None, Some}
use Rattle.std.proofs.Common.{sym, ◌∙◌, subst, inl, inr, arith, ne_eqb}
use Rattle.std.proofs.Math.Decide.{ℕ_discrete}
use Rattle.base.specs.Tests.{and_l, and_r, true_is, or_alone}
use Rattle.entry.specs.declared.Entry.{Entry}
use Rattle.seats.specs.declared.View.{View}
use Rattle.seats.specs.Seats.{leader}
use Rattle.seats.specs.Mask.{bit, with_seat}
use Rattle.seats.specs.Bits.{bit_zero, with_at}
use Rattle.votes.specs.declared.Row.{Row}
use Rattle.votes.specs.declared.VoteRows.{VoteRows}
use Rattle.votes.specs.Rows.{vote_at, has_row, no_votes, with_vote}
use Rattle.votes.specs.TableLaws.{Sized, none_sized, with_sized, filled_at, vote_same, vote_other}
use Rattle.votes.specs.Request.{row_at, row_sent, row_list, sent_from, rows_sent}
use Rattle.messages.specs.declared.Head.{Head}
use Rattle.messages.specs.declared.Message.TheVariants.{Propose}
use Rattle.messages.specs.declared.Proposal.{Proposal}
use Rattle.replica.specs.Steps.{vote_for}
use Rattle.replica.specs.house.Claims.{Statement, proposes, confirms, Claim, marked, said, signed, led, inside, in_row, in_rows, claims}
use Rattle.replica.specs.house.Runs.{Among}

-- ---- what stands in a list
pub among_behind : {A : Type 0} (x : A) (xs ys : List A) → Among x ys → Among x (xs ++ ys)
among_behind x [] ys a = a
among_behind x (z ∷ xs) ys a = inr (among_behind x xs ys a)

-- ---- what holds of each in a list
module _ {A : Type 0} (P : A → Type 0) where
  abbrev pub Each : List A → Type 0
  Each [] = Unit {0}
  Each (x ∷ xs) = P x × Each xs

  -- The same by membership.
  pub each_in : (x : A) (xs : List A) → Each xs → Among x xs → P x
  each_in x [] h a = absurd a
  each_in x (z ∷ xs) h (inl e) = subst P (sym e) h.0
  each_in x (z ∷ xs) h (inr a) = each_in x xs h.1 a

  pub each_all : (xs : List A) → ((x : A) → Among x xs → P x) → Each xs
  each_all [] h = tt
  each_all (x ∷ xs) h = (h x (inl refl), each_all xs (λ z a. h z (inr a)))

  -- What stands in two lists together has it by the first, or stands in the second.
  pub each_or : (x : A) (xs ys : List A) → Each xs → Among x (xs ++ ys) → P x ⊎ Among x ys
  each_or x [] ys h a = inr a
  each_or x (z ∷ xs) ys h (inl e) = inl (subst P (sym e) h.0)
  each_or x (z ∷ xs) ys h (inr a) = each_or x xs ys h.1 a

  -- Two lists together, taken apart and put together.
  pub each_front : (xs ys : List A) → Each (xs ++ ys) → Each xs
  each_front [] ys h = tt
  each_front (x ∷ xs) ys h = (h.0, each_front xs ys h.1)

  pub each_behind : (xs ys : List A) → Each (xs ++ ys) → Each ys
  each_behind [] ys h = h
  each_behind (x ∷ xs) ys h = each_behind xs ys h.1

  pub each_both : (xs ys : List A) → Each xs → Each ys → Each (xs ++ ys)
  each_both [] ys h k = k
  each_both (x ∷ xs) ys h k = (h.0, each_both xs ys h.1 k)

  -- A list that is there only where a mark or a bit is.
  pub each_if : (b : Bool) (xs : List A) → (T b → Each xs) → Each (cond b xs [])
  each_if true xs h = h tt
  each_if false xs h = tt

  pub if_each : (b : Bool) (xs : List A) → T b → Each (cond b xs []) → Each xs
  if_each true xs t h = h
  if_each false xs t h = absurd t

-- A test that passes wherever another does.
pub each_map : {A : Type 0} (P Q : A → Type 0) → ((x : A) → P x → Q x) → (xs : List A) → Each P xs → Each Q xs
each_map P Q up [] h = tt
each_map P Q up (x ∷ xs) h = (up x h.0, each_map P Q up xs h.1)

-- ---- seats in a mask

-- Mask 0 has no seat.
pub none_set : (k : ℕ) → T (bit 0 k) → ⊥
none_set k t = subst T (bit_zero k) t

-- With one seat more: what holds of it, and of the others that were in, holds of all.
one_more : (Q : ℕ → Type 0) (old now : ℕ → Bool) (k : ℕ) → ((j : ℕ) → now j ≡ (old j || eqb j k)) → Q k
    → ((j : ℕ) → (j ≡ k → ⊥) → T (old j) → Q j) → (j : ℕ) → T (now j) → Q j
one_more Q old now k e new rest j t = elim (ℕ_discrete j k) [
  | yes i ↦ subst Q (sym i) new
  | no i ↦ rest j i (subst T (e j ∙ ap (λ b. old j || b) (ne_eqb j k i) ∙ or_alone (old j)) t)
]

-- So of a mask to which seat k is added.
pub seat_added : (Q : ℕ → Type 0) (mask k : ℕ) → k < 64 → Q k → ((j : ℕ) → T (bit mask j) → Q j) → (j : ℕ) → T (bit (with_seat mask k) j) → Q j
seat_added Q mask k small new old = one_more Q (bit mask) (bit (with_seat mask k)) k (λ j. with_at mask k j small) new (λ j d. old j)

-- ---- claims that pass: P is any test
module _ (P : Claim → Type 0) where
  -- A mark speaks for its sender.
  pub mark_passes : (h : Head) (x : Statement) → T h.verified → Each P (marked h x) → P (h.seat.0, x)
  mark_passes h x t e = (if_each P h.verified ((h.seat.0, x) ∷ []) t e).0

  -- A mask claims what each of its bits does,
  pub mask_passes : (n : ℕ) (v : View) (e : Entry) (mask : ℕ) → ((k : ℕ) → k < n → T (bit mask k) → P (k, confirms v e)) → Each P (signed n v e mask)
  mask_passes zero v e mask h = tt
  mask_passes (suc k) v e mask h =
      each_both P (cond (bit mask k) ((k, confirms v e) ∷ []) []) (signed k v e mask)
      (each_if P (bit mask k) ((k, confirms v e) ∷ []) (λ t. (h k (omega arith) t, tt))) (mask_passes k v e mask (λ j l. h j (omega arith)))

  -- and each of its bits what the mask does.
  pub bit_passes : (n : ℕ) (v : View) (e : Entry) (mask : ℕ) → Each P (signed n v e mask) → (k : ℕ) → k < n → T (bit mask k) → P (k, confirms v e)
  bit_passes zero v e mask h k l t = absurd (omega arith)
  bit_passes (suc d) v e mask h k l t =
      let its : List Claim = (d, confirms v e) ∷ [] in
      let here = cond (bit mask d) its [] in
      let later = signed d v e mask in
      elim (ℕ_discrete k d) [
        | yes q ↦
            let set = subst (λ j. T (bit mask j)) q t in
            subst (λ j. P (j, confirms v e)) (sym q) (if_each P (bit mask d) its set (each_front P here later h)).0
        | no q ↦ bit_passes d v e mask (each_behind P here later h) k (omega arith) t
      ]

  module _ (n : ℕ) where
    -- A vote tells what its proposal did: the mark of a leader's P is the mark inside the vote.
    pub vote_passes : (p : Proposal) → T p.head.verified → leader p.head.view.0 n ≡ p.head.seat.0 → Each P (claims n (Propose p) [])
        → Each P (inside n (vote_for p))
    vote_passes p t leads h =
        let proposal = proposes p.head.view p.entry in
        let bits = signed n p.head.view p.entry p.mask in
        let word = mark_passes p.head proposal t (each_front P (said (Propose p)) bits h) in
        each_both P (led n (vote_for p)) bits
        (each_if P (p.head.verified && leb 1 p.head.view.0) ((leader p.head.view.0 n, proposal) ∷ [])
        (λ b. (subst (λ k. P (k, proposal)) (sym leads) word, tt)))
        (each_behind P (said (Propose p)) bits h)

    -- ---- the rows that a leader holds for view v
    abbrev pub Rowed : View → VoteRows → Type 0
    Rowed v t = Sized t.votes × ((j : ℕ) → T (bit t.filled j) → Each P (in_row n (row_at v t (record { 0 = j }))))

    -- E empties the table.
    pub none_rowed : (v : View) → Rowed v no_votes
    none_rowed v = (none_sized, λ j t. absurd (none_set j t))

    -- A row is sent as the V that filled it.
    row_back : (r : Row) (v : View) (t : VoteRows) → T r.verified → r.view.0 ≡ v.0 → vote_at t.votes r.seat.0 ≡ r.vote
        → row_at v t (record { 0 = r.seat.0 }) ≡ r
    unfolding row_at
    row_back r v t marked same e =
        let view : ◌≡◌ {A = View} v r.view = ap (λ k. record { 0 = k }) (sym same) in
        rw (e, view, true_is r.verified marked)

    -- A row is sent as before where its vote is.
    row_kept : (v : View) (t u : VoteRows) (j : ℕ) → vote_at t.votes j ≡ vote_at u.votes j
        → row_at v t (record { 0 = j }) ≡ row_at v u (record { 0 = j })
    unfolding row_at
    row_kept v t u j e = rw e

    -- V fills one row and leaves the others.
    pub row_filled : (v : View) (t : VoteRows) (r : Row) → r.seat.0 < 64 → T r.verified → r.view.0 ≡ v.0 → Each P (in_row n r) → Rowed v t
        → Rowed v (with_vote t r.seat.0 r.vote)
    row_filled v t r small marked same h old =
        let k = r.seat.0 in
        let now = with_vote t k r.vote in
        let its = row_back r v now marked same (vote_same t k r.vote small old.0) in (
          with_sized t k r.vote small old.0,
          one_more (λ j. Each P (in_row n (row_at v now (record { 0 = j })))) (bit t.filled) (bit now.filled) k
              (λ j. filled_at t k r.vote j small) (subst (λ y. Each P (in_row n y)) (sym its) h)
              (λ j d was. subst (λ y. Each P (in_row n y)) (row_kept v t now j (sym (vote_other t k r.vote j small d))) (old.1 j was)),
        )

    -- Those of seats k, k + 1, .., d of them looked at.
    rows_from : (m f : ℕ) (v : View) (t : VoteRows) (k d : ℕ) → Rowed v t → Each P (in_rows n (sent_from m f v t k d))
    unfolding row_sent has_row
    rows_from m f v t k zero h = tt
    rows_from m f v t k (suc d) h =
        go (ltb k m && has_row m f v t k) (λ q. h.1 k (and_l (bit t.filled k) _ (and_r (ltb k m) (has_row m f v t k) q)))
        (rows_from m f v t (suc k) d h)
      where
        row : Row
        row = row_at v t (record { 0 = k })

        later : List Row
        later = sent_from m f v t (suc k) d

        go : (b : Bool) → (T b → Each P (in_row n row)) → Each P (in_rows n later)
            → Each P (in_rows n (row_list (cond b (Some row) None) later))
        go true here rest = each_both P (in_row n row) (in_rows n later) (here tt) rest
        go false here rest = rest

    -- A request's rows are rows of the table.
    pub rows_pass : (m f : ℕ) (v : View) (t : VoteRows) → Rowed v t → Each P (in_rows n (rows_sent m f v t))
    unfolding rows_sent
    rows_pass m f v t h = rows_from m f v t 0 m h
