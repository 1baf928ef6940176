-- The rows of a request that goes out, put one after the other in seat order.
use Rattle.std.proofs.Common.{Option, Some, None}
use Prim.Native.Nat.{ℕ, zero, suc, ◌+◌, ◌*◌, ◌≤◌, ◌<◌, ◌^◌}
use mathlib.Core.Path.{◌≡◌, refl, sym, ap, ◌∙◌}
use mathlib.Core.Bool.{Bool, true, false, ◌&&◌, cond}
use mathlib.Core.List.{List, [], ◌∷◌, ◌++◌, append_assoc}
use native.Mathlib.Omega.{arith}
use native.Mathlib.Numerals.{add-one}
use native.Mathlib.Nat.{zero-add, add-zero}
use lib.Dec.{ltb, lit≤}
use lib.ListN.{length, length-append}
use borrow.Author.Tests.{le-leb}
use Rattle.base.specs.Tests.{is_true, and_true}
use Rattle.text.specs.Fields.{tabbed}
use Rattle.text.specs.DecimalLaws.{decimal_short}
use Rattle.text.specs.Put.{Puts}
use Rattle.text.specs.PutLaws.{become, put_then}
use Rattle.entry.specs.Hex.{entry_digits}
use Rattle.seats.specs.declared.View.{View}
use Rattle.seats.specs.Mask.{bit}
use Rattle.votes.specs.declared.Row.{Row}
use Rattle.votes.specs.declared.Vote.{Vote}
use Rattle.votes.specs.declared.VoteRows.{VoteRows}
use Rattle.votes.specs.Vote.{valid}
use Rattle.votes.specs.VoteLaws.{valid_below}
use Rattle.votes.specs.Rows.{vote_at, has_row}
use Rattle.votes.specs.Request.{row_at, row_sent, row_list, sent_from}
use Rattle.messages.specs.declared.Message.TheVariants.{Cast}
use Rattle.messages.specs.Lengths.{head_takes, vote_takes, row_takes, line_takes}
use Rattle.messages.specs.Lines.{vote, row_head, line, top_seat}
use Rattle.messages.specs.Writer.{writable}
use Rattle.transcript.specs.Printed.{row_lines, RowWritable}
use Rattle.transcript.specs.Rooms.{row_room}

-- ---- one row after the other
lines_append : (xs ys : List Row) → row_lines (xs ++ ys) ≡ row_lines xs ++ row_lines ys
lines_append [] ys = refl
lines_append (r ∷ xs) ys =
    ap (λ (t : List ℕ). line (Cast r) ++ t) (lines_append xs ys) ∙ sym (append_assoc (line (Cast r)) (row_lines xs) (row_lines ys))

list_append : (r : Option Row) (xs ys : List Row) → row_list r (xs ++ ys) ≡ row_list r xs ++ ys
list_append None xs ys = refl
list_append (Some r) xs ys = refl

module _ (n f : ℕ) (v : View) (t : VoteRows) where
  -- Seat k's row.
  abbrev pub seat_row : ℕ → Option Row
  seat_row k = row_sent n f v t (record { 0 = k })

  sent_last : (k d : ℕ) → sent_from n f v t k (suc d) ≡ sent_from n f v t k d ++ row_list (seat_row (k + d)) []
  sent_last k zero = ap (λ (j : ℕ). row_list (seat_row j) []) (sym (add-zero k))
  sent_last k (suc d) =
      let z : suc k + d ≡ k + suc d = omega arith in
      ap (row_list (seat_row k)) (sent_last (suc k) d ∙ ap (λ (j : ℕ). sent_from n f v t (suc k) d ++ row_list (seat_row j) []) z)
      ∙ list_append (seat_row k) (sent_from n f v t (suc k) d) (row_list (seat_row (k + suc d)) [])

  -- The lines of the rows of seats below k.
  abbrev pub lines_below : ℕ → List ℕ
  lines_below k = row_lines (sent_from n f v t 0 k)

  lines_last : (k : ℕ) → lines_below k ++ row_lines (row_list (seat_row k) []) ≡ lines_below (suc k)
  lines_last k =
      let rows = sent_from n f v t 0 k in
      let last = sent_last 0 k ∙ ap (λ (j : ℕ). rows ++ row_list (seat_row j) []) (zero-add k) in
      sym (ap row_lines last ∙ lines_append rows (row_list (seat_row k) []))

  -- Seat k's row is put behind them.
  pub row_more : (b : List ℕ) (p k q : ℕ) (c : List ℕ) (row : Option Row) (r : ℕ) (d : List ℕ) → Puts b p (lines_below k) q c
      → row ≡ seat_row k → Puts c q (row_lines (row_list row [])) r d → Puts b p (lines_below (k + 1)) r d
  row_more b p k q c row r d before is this =
      let text = row_lines (row_list (seat_row k) []) in
      let same = ap (λ (x : Option Row). row_lines (row_list x [])) is in
      let it = become c q (row_lines (row_list row [])) text r d same this in
      become b p (lines_below k ++ text) (lines_below (k + 1)) r d (lines_last k ∙ ap lines_below (sym (add-one k)))
      (put_then b p (lines_below k) q c text r d before it)

  -- ---- each row has a line, of `row_room` bytes at most
  pub row_writable : (k : ℕ) → k ≤ top_seat → RowWritable (seat_row k)
  unfolding row_sent row_at writable
  row_writable k h = go (ltb k n && has_row n f v t k)
    where
      go : (b : Bool) → RowWritable (cond b (Some (row_at v t (record { 0 = k }))) None)
      go true = le-leb k top_seat h
      go false = tt

  module _ (small : v.0 < 2 ^ 32) where
    -- A valid vote is of a lower view.
    vote_short : (x : Vote) → valid n f v x ≡ true → length (tabbed (vote x.cast x)) ≤ entry_digits + 31
    vote_short x h = go x.cast refl
      where
        go : (c : Bool) → x.cast ≡ c → length (tabbed (vote c x)) ≤ entry_digits + 31
        go true e =
            let u = valid_below n f v x (is_true (valid n f v x) h) (is_true x.cast e) in
            omega (arith, vote_takes x, decimal_short 9 x.view.0 (omega arith) (lit≤ tt))
        go false e = lit≤ tt

    row_short : (k : ℕ) → k ≤ top_seat → length (row_lines (row_list (seat_row k) [])) ≤ row_room
    unfolding row_sent row_at has_row
    row_short k h = go (ltb k n && has_row n f v t k) refl
      where
        row : Row
        row = row_at v t (record { 0 = k })

        go : (b : Bool) → (ltb k n && has_row n f v t k) ≡ b
            → length (row_lines (row_list (cond b (Some row) None) [])) ≤ row_room
        go true e =
            let held = (and_true (ltb k n) (has_row n f v t k) e).1 in
            let good = (and_true (bit t.filled k) (valid n f v (vote_at t.votes k)) held).1 in
            let seat = decimal_short 1 k (omega arith) (lit≤ tt) in
            let view = decimal_short 9 v.0 (omega arith) (lit≤ tt) in
            omega (
              arith,
              length-append (line (Cast row)) [],
              line_takes (Cast row),
              row_takes row,
              head_takes (row_head row) [],
              vote_short (vote_at t.votes k) good,
            )
        go false e = lit≤ tt

    pub rows_short : (k : ℕ) → k ≤ 64 → length (lines_below k) ≤ row_room * k
    rows_short zero h = lit≤ tt
    rows_short (suc k) h =
        let both = length-append (lines_below k) (row_lines (row_list (seat_row k) [])) in
        omega (arith, ap length (lines_last k), rows_short k (omega arith), row_short k (omega arith))
