-- Between which numbers the margin lies, and what it is where no row is filled.
use Rattle.std.specs.Prelude.{ℕ, zero, suc, ◌+◌, ◌-◌, ◌≤◌, ◌<◌, ◌≡◌, refl, Bool, true, false, not, cond, T, ltb, pos, negsuc, neg_ℤ, ◌-ℤ◌, ◌≤ℤ◌}
use Rattle.std.proofs.Common.{ap, ap₂, ◌∙◌, inl, inr, arith, T_not, leb→le, le→leb, lt-ltb}
use Rattle.std.specs.Int.Signed.{le_z, le_z_yes}
use Rattle.seats.specs.Sizes.{fewest, quorum}
use Rattle.seats.specs.SizeLaws.{Allowed}
use Rattle.acks.specs.declared.AckRow.{AckRow}
use Rattle.acks.specs.Acks.{is_filled, most, margin}
use Rattle.acks.specs.MostLaws.{most_le, most_reached}

-- When a difference of two numbers is at most c, and at least −(c + 1).
at_most : (a b c : ℕ) → a ≤ b + c → (pos a -ℤ pos b) ≤ℤ pos c
at_most a zero c h = le_z_yes (le→leb (a + 0) c (omega arith))
at_most a (suc b) c h = le_z_yes (go (ltb a (suc b)) refl)
  where
    go : (t : Bool) → ltb a (suc b) ≡ t → T (le_z (cond t (negsuc (suc b - suc a)) (pos (a - suc b))) (pos c))
    go true e = tt
    go false e = le→leb (a - suc b) c (omega arith)

at_least : (a b c : ℕ) → b ≤ a + suc c → negsuc c ≤ℤ (pos a -ℤ pos b)
at_least a zero c h = le_z_yes tt
at_least a (suc b) c h = le_z_yes (go (ltb a (suc b)) refl)
  where
    go : (t : Bool) → ltb a (suc b) ≡ t → T (le_z (negsuc c) (cond t (negsuc (suc b - suc a)) (pos (a - suc b))))
    go true e = le→leb (suc b - suc a) c (omega arith)
    go false e = tt

-- Where setup takes n and f: −63 to 13, and never above f.
pub margin_range : (n f : ℕ) (row : ℕ → AckRow) → Allowed n f
    → (neg_ℤ (pos 63) ≤ℤ margin n f row) × (margin n f row ≤ℤ pos 13) × (margin n f row ≤ℤ pos f)
unfolding margin
margin_range n f row a =
    let m = most_le n row in
    let b = leb→le (fewest f) n a.fits in
    let l = a.most in
    let s = a.some in (
      at_least (most n row) (quorum n f) 62 (omega arith),
      at_most (most n row) (quorum n f) 13 (omega arith),
      at_most (most n row) (quorum n f) f (omega arith),
    )

-- With no row filled it is −(n − f).
pub margin_none : (n f : ℕ) (row : ℕ → AckRow) → ((k : ℕ) → k < n → T (not (is_filled (row k)))) → margin n f row ≡ neg_ℤ (pos (quorum n f))
unfolding margin
margin_none n f row none =
    let zero-most : most n row ≡ 0 = elim (most_reached n row) [ inl z ↦ z | inr r ↦ absurd (T_not (is_filled (row r.0)) (none r.0 r.1) r.2) ] in
    ap (λ m. pos m -ℤ pos (quorum n f)) zero-most ∙ minus (quorum n f)
  where
    minus : (q : ℕ) → pos 0 -ℤ pos q ≡ neg_ℤ (pos q)
    minus zero = refl
    minus (suc q) =
        let one_less : suc q - 1 ≡ q = omega arith in
        ap₂ (λ b x. cond b (negsuc x) (pos (0 - suc q))) (lt-ltb 0 (suc q) (omega arith)) one_less
