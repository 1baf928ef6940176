-- How the code reads eight bytes at once: the top bit of each byte of a sum tells how the byte compares.
use Prim.Native.Nat.{ℕ, zero, suc, ◌+◌, ◌*◌, ◌/◌, ◌%◌, ◌^◌, ◌<◌, ◌≤◌}
use mathlib.Core.Path.{◌≡◌, refl, sym, ap, ap₂, ◌∙◌}
use mathlib.Core.Bool.{Bool, true, false, not, ◌&&◌, ◌||◌, cond}
use mathlib.Core.List.{List, [], ◌∷◌}
use native.Mathlib.Omega.{arith}
use lib.Bits.{bit_and, bit_or, bit_xor, and_block, or_block, xor_block, and_lt, or_lt, xor_lt, and_le_r, and_zero_r, and_mask, and_high, and_shr, or_shr, xor_shr}
use lib.Dec.{T, eqb, ltb, leb, lit<, lit≤, ltb→lt}
use borrow.Author.Tests.{ltb-true, ltb-false, leb-true, leb-false, eqb-true, eqb-false, ne_eqb, le-leb, lt-leb}
use Rattle.base.specs.Tests.{and_l, and_r, and_true}
use Rattle.entry.specs.Entry.{all, blank, stretched, word_bytes, word_of}
use Rattle.entry.specs.Words.{is_byte, word_back, word_below}
use Rattle.entry.proofs.Lanes.{walk, each, Bytes, lanes, same_lanes, down}
use Rattle.entry.proofs.Scan.{follows, scan, scan_stretched}

-- ---- what the code computes in one byte x behind a byte p

abbrev low : ℕ → ℕ
low x = bit_and x 127

abbrev seen : ℕ → ℕ
seen x = low x + 0x5f

abbrev shown : ℕ → ℕ
shown x = bit_and (low x + 0x60) (bit_xor (bit_or (low x + 1) x) 128)

abbrev marks : ℕ → ℕ → ℕ
marks p x = bit_and (shown x) (bit_or (bit_xor (seen x) 128) (seen p))

-- The top bit of it, from the top bits of what is in it.
abbrev top : ℕ → ℕ → ℕ → ℕ → ℕ → ℕ
top a d x s p = bit_and (bit_and a (bit_xor (bit_or d x) 1)) (bit_or (bit_xor s 1) p)

mark_top : (p x : ℕ) → bit_and (marks p x) 128 ≡ top ((low x + 0x60) / 128) ((low x + 1) / 128) (x / 128) (seen x / 128) (seen p / 128) % 2 * 128
mark_top p x =
    and_high (marks p x) 1 7
    ∙ ap (λ (y : ℕ). y % 2 * 128)
    (and_shr (shown x) (bit_or (bit_xor (seen x) 128) (seen p)) 7
    ∙ ap₂ bit_and
    (and_shr (low x + 0x60) (bit_xor (bit_or (low x + 1) x) 128) 7
    ∙ ap (bit_and ((low x + 0x60) / 128)) (xor_shr (bit_or (low x + 1) x) 128 7 ∙ ap (λ (y : ℕ). bit_xor y 1) (or_shr (low x + 1) x 7)))
    (or_shr (bit_xor (seen x) 128) (seen p) 7 ∙ ap (λ (y : ℕ). bit_or y (seen p / 128)) (xor_shr (seen x) 128 7)))

low_is : (x : ℕ) → low x ≡ x % 128
low_is x = and_mask x 7

-- It is the top bit exactly where x may follow.
one : (b : Bool) (q x : ℕ) → x < 256 → q ≡ cond b 0 1
    → eqb (top ((low x + 0x60) / 128) ((low x + 1) / 128) (x / 128) (seen x / 128) q % 2 * 128) 128 ≡ follows b x
one b q x small e = rw (e, low_is x) (go (ltb x 0x20) refl (eqb x 0x20) refl (leb x 0x7E) refl (ltb x 128) refl)
  where
    value : ℕ → ℕ → ℕ → ℕ → Bool → Bool
    value a d t s c = eqb (top a d t s (cond c 0 1) % 2 * 128) 128

    under : (c : Bool) → value 0 0 0 0 c ≡ (false || ((not c && false) && true))
    under true = refl
    under false = refl

    empty : (c : Bool) → value 1 0 0 0 c ≡ true
    empty true = refl
    empty false = refl

    visible : (c : Bool) → value 1 0 0 1 c ≡ (false || ((not c && true) && true))
    visible true = refl
    visible false = refl

    last : (c : Bool) → value 1 1 0 1 c ≡ (false || ((not c && true) && false))
    last true = refl
    last false = refl

    -- From 128 on.
    beyond : (a d s : ℕ) → d < 2 → (c : Bool) → value a d 1 s c ≡ (false || ((not c && true) && false))
    beyond a d s h c = rw (none d h) (rw (and_zero_r a) (out c))
      where
        none : (d : ℕ) → d < 2 → bit_xor (bit_or d 1) 1 ≡ 0
        none zero h = refl
        none (suc zero) h = refl
        none (suc (suc d)) h = absurd (omega arith)

        out : (c : Bool) → eqb (bit_and 0 (bit_or (bit_xor s 1) (cond c 0 1)) % 2 * 128) 128 ≡ (false || ((not c && true) && false))
        out true = refl
        out false = refl

    go : (i : Bool) → ltb x 0x20 ≡ i → (j : Bool) → eqb x 0x20 ≡ j → (k : Bool) → leb x 0x7E ≡ k → (l : Bool) → ltb x 128 ≡ l
        → value ((x % 128 + 0x60) / 128) ((x % 128 + 1) / 128) (x / 128) ((x % 128 + 0x5f) / 128) b ≡ (j || ((not b && leb 0x21 x) && k))
    go true f j g k h l m =
        let u = ltb-true x 0x20 f in
        let within : (x % 128 + 0x60) / 128 ≡ 0 = omega arith in
        let no : j ≡ false = sym g ∙ ne_eqb x 0x20 (λ z. omega arith) in
        let yes : k ≡ true = sym h ∙ le-leb x 0x7E (omega arith) in
        rw (within, no, yes, lt-leb 0x21 x (omega arith)) (under b)
    go false f true g k h l m =
        let u : x ≡ 0x20 = eqb-true x 0x20 g in
        rw u (empty b)
    go false f false g true h l m =
        let u = ltb-false x 0x20 f in
        let v = eqb-false x 0x20 g in
        let w = leb-true x 0x7E h in
        let within : (x % 128 + 0x60) / 128 ≡ 1 = omega arith in
        let over : (x % 128 + 1) / 128 ≡ 0 = omega arith in
        let high : x / 128 ≡ 0 = omega arith in
        let mark : (x % 128 + 0x5f) / 128 ≡ 1 = omega arith in
        rw (within, over, high, mark, le-leb 0x21 x (omega arith)) (visible b)
    go false f false g false h true m =
        let u : x ≡ 0x7F = omega (arith, leb-false x 0x7E h, ltb-true x 128 m) in
        rw u (last b)
    go false f false g false h false m =
        let u = ltb-false x 128 m in
        let high : x / 128 ≡ 1 = omega arith in
        let two : (x % 128 + 1) / 128 < 2 = omega arith in
        rw (high, le-leb 0x21 x (omega arith)) (beyond ((x % 128 + 0x60) / 128) ((x % 128 + 1) / 128) ((x % 128 + 0x5f) / 128) two b)

-- ---- in every byte of a word

-- Behind a byte of a serial.
byte : (p x : ℕ) → 0x20 ≤ p → p ≤ 0x7E → x < 256 → eqb (bit_and (marks p x) 128) 128 ≡ follows (blank p) x
byte p x lo hi small = ap (λ (y : ℕ). eqb y 128) (mark_top p x) ∙ one (blank p) (seen p / 128) x small (ap (λ (y : ℕ). (y + 0x5f) / 128) (low_is p) ∙ before (blank p) refl)
  where
    before : (b : Bool) → blank p ≡ b → (p % 128 + 0x5f) / 128 ≡ cond b 0 1
    before true e = let u = eqb-true p 0x20 e in omega arith
    before false e = let u = eqb-false p 0x20 e in omega arith

follows_shown : (b : Bool) (x : ℕ) → follows b x ≡ true → (0x20 ≤ x) × (x ≤ 0x7E)
follows_shown b x h = go (blank x) refl h
  where
    go : (t : Bool) → blank x ≡ t → (t || ((not b && leb 0x21 x) && leb x 0x7E)) ≡ true → (0x20 ≤ x) × (x ≤ 0x7E)
    go true e k = let u = eqb-true x 0x20 e in (omega arith, omega arith)
    go false e k =
        let t = and_true (not b && leb 0x21 x) (leb x 0x7E) k in
        let u = leb-true 0x21 x (and_true (not b) (leb 0x21 x) t.0).1 in
        (omega arith, leb-true x 0x7E t.1)

each_scan : (xs : List ℕ) (p : ℕ) → 0x20 ≤ p → p ≤ 0x7E → T (all is_byte xs) → each (λ q x. eqb (bit_and (marks q x) 128) 128) p xs ≡ scan (blank p) xs
each_scan [] p lo hi k = refl
each_scan (x ∷ xs) p lo hi k =
    ap (λ (t : Bool). t && each (λ q y. eqb (bit_and (marks q y) 128) 128) x xs) (byte p x lo hi (ltb→lt x 256 (and_l (is_byte x) (all is_byte xs) k)))
    ∙ go (follows (blank p) x) refl (λ l u. each_scan xs x l u (and_r (is_byte x) (all is_byte xs) k))
  where
    go : (t : Bool) → follows (blank p) x ≡ t → (0x20 ≤ x → x ≤ 0x7E → each (λ q y. eqb (bit_and (marks q y) 128) 128) x xs ≡ scan (blank x) xs)
        → (t && each (λ q y. eqb (bit_and (marks q y) 128) 128) x xs) ≡ (t && scan (blank x) xs)
    go true e ih = let u = follows_shown (blank p) x e in ih u.0 u.1
    go false e ih = refl

module _ (w : ℕ) (h : w < 2 ^ 64) where
  -- v holds in each byte what f makes of that byte of w and of the one before; before the first a visible one is thought.
  record Is (v : ℕ) (f : ℕ → ℕ → ℕ) : Type 0 where
    pub is : v ≡ word_of 0 (walk f 0x21 (word_bytes w))
    pub small : Bytes f

  op_is : (op : ℕ → ℕ → ℕ) → ((a b r s : ℕ) → r < 256 → s < 256 → op (a * 256 + r) (b * 256 + s) ≡ op a b * 256 + op r s) → op 0 0 ≡ 0
      → (u v : ℕ) (f g : ℕ → ℕ → ℕ) → Is u f → Is v g → Bytes (λ p x. op (f p x) (g p x)) → Is (op u v) (λ p x. op (f p x) (g p x))
  op_is op block z u v f g a b s = record {
    is =
        ap₂ op a.is b.is
        ∙ lanes op block f g a.small b.small (word_bytes w) 0x21 (lit< tt) (word_below w h) 0 0
        ∙ ap (λ (y : ℕ). word_of y (walk (λ p x. op (f p x) (g p x)) 0x21 (word_bytes w))) z;
    small = s;
  }

  and_is : (u v : ℕ) (f g : ℕ → ℕ → ℕ) → Is u f → Is v g → Is (bit_and u v) (λ p x. bit_and (f p x) (g p x))
  and_is u v f g a b = op_is bit_and (and_block 8) refl u v f g a b (λ p x i j. and_lt 8 (f p x) (g p x) (a.small p x i j) (b.small p x i j))

  or_is : (u v : ℕ) (f g : ℕ → ℕ → ℕ) → Is u f → Is v g → Is (bit_or u v) (λ p x. bit_or (f p x) (g p x))
  or_is u v f g a b = op_is bit_or (or_block 8) refl u v f g a b (λ p x i j. or_lt 8 (f p x) (g p x) (a.small p x i j) (b.small p x i j))

  xor_is : (u v : ℕ) (f g : ℕ → ℕ → ℕ) → Is u f → Is v g → Is (bit_xor u v) (λ p x. bit_xor (f p x) (g p x))
  xor_is u v f g a b = op_is bit_xor (xor_block 8) refl u v f g a b (λ p x i j. xor_lt 8 (f p x) (g p x) (a.small p x i j) (b.small p x i j))

  -- The word, and a word of equal bytes.
  own : Is w (λ p x. x)
  own = record { is = sym (word_back w); small = λ p x i j. j }

  equal : (v c : ℕ) → v ≡ word_of 0 (walk (λ p x. c) 0x21 (word_bytes w)) → c < 256 → Is v (λ p x. c)
  equal v c e i = record { is = e; small = λ p x j k. i }

  tops : Is 0x8080808080808080 (λ p x. 128)
  tops = equal 0x8080808080808080 128 refl (lit< tt)

  lows : Is (bit_and w 0x7f7f7f7f7f7f7f7f) (λ p x. low x)
  lows = and_is w 0x7f7f7f7f7f7f7f7f (λ p x. x) (λ p x. 127) own (equal 0x7f7f7f7f7f7f7f7f 127 refl (lit< tt))

  sum : (v c : ℕ) → v ≡ word_of 0 (walk (λ p x. c) 0x21 (word_bytes w)) → c ≤ 128 → Is (bit_and w 0x7f7f7f7f7f7f7f7f + v) (λ p x. low x + c)
  sum v c e i =
      op_is ◌+◌ (λ a b r s j k. omega arith) refl (bit_and w 0x7f7f7f7f7f7f7f7f) v (λ p x. low x) (λ p x. c) lows (equal v c e (omega arith))
      (λ p x j k. omega (arith, and_le_r x 127))

  sees : Is (bit_and w 0x7f7f7f7f7f7f7f7f + 0x5f5f5f5f5f5f5f5f) (λ p x. seen x)
  sees = sum 0x5f5f5f5f5f5f5f5f 0x5f refl (lit≤ tt)

  behinds : Is ((bit_and w 0x7f7f7f7f7f7f7f7f + 0x5f5f5f5f5f5f5f5f) / 256 + 0x8000000000000000) (λ p x. seen p)
  behinds = record {
    is =
        ap (λ (y : ℕ). y / 256 + 0x8000000000000000) sees.is
        ∙ down seen (λ x i. omega (arith, and_le_r x 127)) w 0x21 (lit< tt) (word_below w h);
    small = λ p x i j. omega (arith, and_le_r p 127);
  }

  showns : Is (bit_and (bit_and w 0x7f7f7f7f7f7f7f7f + 0x6060606060606060) (bit_xor (bit_or (bit_and w 0x7f7f7f7f7f7f7f7f + 0x101010101010101) w) 0x8080808080808080)) (λ p x. shown x)
  showns =
      and_is _ _ _ _ (sum 0x6060606060606060 0x60 refl (lit≤ tt))
      (xor_is _ _ _ _ (or_is _ _ _ _ (sum 0x101010101010101 1 refl (lit≤ tt)) own) tops)

  -- What the code computes of a word tells whether its bytes are visible ones, then blanks.
  pub stretches_is :
      let low = bit_and w 0x7f7f7f7f7f7f7f7f in
      let seen = low + 0x5f5f5f5f5f5f5f5f in
      let shown = bit_and (low + 0x6060606060606060) (bit_xor (bit_or (low + 0x101010101010101) w) 0x8080808080808080) in
      let last = bit_or (bit_xor seen 0x8080808080808080) (seen / 256 + 0x8000000000000000) in
      eqb (bit_and (bit_and shown last) 0x8080808080808080) 0x8080808080808080 ≡ stretched (word_bytes w)
  stretches_is =
      let all = and_is _ _ _ _ (and_is _ _ _ _ showns (or_is _ _ _ _ (xor_is _ _ _ _ sees tops) behinds)) tops in
      ap (λ (y : ℕ). eqb y 0x8080808080808080) all.is
      ∙ same_lanes (λ p x. bit_and (marks p x) 128) (λ p x. 128) all.small tops.small (word_bytes w) 0x21 (lit< tt) (word_below w h) 0 0
      ∙ each_scan (word_bytes w) 0x21 (lit≤ tt) (lit≤ tt) (word_below w h)
      ∙ scan_stretched (word_bytes w)
