-- Entries compared, and that bytes tell an entry: over any Entry, with no side condition.
use Rattle.std.specs.Prelude.{ℕ, ◌^◌, ◌<◌, ◌≡◌, refl, Bool, true, false, not, ◌&&◌, ◌||◌, List, [], ◌∷◌, ◌++◌, T, eqb, ltb, length, take, drop, replicate}
use Rattle.std.proofs.Common.{sym, ap, ap₂, ◌∙◌, subst, arith, T_not, length-take, length-drop, take-append-drop}
use Rattle.std.proofs.Math.Dec.{not_T}
use Rattle.base.specs.Tests.{and_l, and_r, and_i, and_alone, is_true, same_test}
use Rattle.entry.specs.declared.Entry.{Entry}
use Rattle.entry.specs.Entry.{all, blank, word_bytes, bytes_of, serial_length, serial_of, code_of, serial, well_formed, same_bytes, same, less}
use Rattle.entry.specs.Entry.{of_words, entry_of}
use Rattle.entry.specs.Flags.{last_step}
use Rattle.entry.specs.Order.{same_lists, list_same, list_irrefl, list_trans, list_total}
use Rattle.entry.specs.Words.{below, equal_word, below_word, word_back, is_byte, all_join, word_below, word_made}

-- How the code compares: word by word.
pub same_words : (a b : Entry) → same a b ≡ (eqb a.hi b.hi && eqb a.lo b.lo)
unfolding same
same_words a b =
    equal_word a.hi b.hi (word_bytes a.lo) (word_bytes b.lo)
    ∙ ap (λ (t : Bool). eqb a.hi b.hi && t) (equal_word a.lo b.lo [] [] ∙ and_alone (eqb a.lo b.lo))

pub less_words : (a b : Entry) → less a b ≡ (ltb a.hi b.hi || (eqb a.hi b.hi && ltb a.lo b.lo))
unfolding less
less_words a b =
    below_word a.hi b.hi (word_bytes a.lo) (word_bytes b.lo)
    ∙ ap (λ (t : Bool). below a.hi b.hi t) (below_word a.lo b.lo [] [] ∙ last_step (ltb a.lo b.lo) (eqb a.lo b.lo))

-- From words to bytes and back.
pub bytes_back : (e : Entry) → entry_of (bytes_of e) ≡ e
bytes_back e = ap₂ of_words (word_back e.hi) (word_back e.lo)

pub bytes_tell : (a b : Entry) → bytes_of a ≡ bytes_of b → a ≡ b
bytes_tell a b h = sym (bytes_back a) ∙ ap entry_of h ∙ bytes_back b

-- `same` is equality.
pub same_eq : (a b : Entry) → T (same a b) → a ≡ b
unfolding same
same_eq a b h = bytes_tell a b (same_lists (bytes_of a) (bytes_of b) h)

pub eq_same : (a b : Entry) → a ≡ b → same a b ≡ true
unfolding same
eq_same a b p = ap (λ (e : Entry). same_bytes (bytes_of a) (bytes_of e)) (sym p) ∙ list_same (bytes_of a)

pub same_refl : (a : Entry) → T (same a a)
same_refl a = is_true (same a a) (eq_same a a refl)

pub same_sym : (a b : Entry) → same a b ≡ same b a
same_sym a b =
    same_test (same a b) (same b a)
    (λ (h : same a b ≡ true). eq_same b a (sym (same_eq a b (is_true (same a b) h))))
    (λ (h : same b a ≡ true). eq_same a b (sym (same_eq b a (is_true (same b a) h))))

-- `less` is a strict total order.
pub less_irrefl : (a : Entry) → T (not (less a a))
unfolding less
less_irrefl a = not_T (less a a) (list_irrefl (bytes_of a))

pub less_trans : (a b c : Entry) → T (less a b) → T (less b c) → T (less a c)
unfolding less
less_trans a b c h k = list_trans (bytes_of a) (bytes_of b) (bytes_of c) h k

pub less_total : (a b : Entry) → T (not (less a b)) → T (not (less b a)) → a ≡ b
unfolding less
less_total a b h k = bytes_tell a b (list_total (bytes_of a) (bytes_of b) refl (T_not (less a b) h) (T_not (less b a) k))

-- "An entry is 16 bytes."
pub bytes_sixteen : (e : Entry) → length (bytes_of e) ≡ 16
bytes_sixteen e = refl

pub bytes_below : (e : Entry) → e.hi < 2 ^ 64 → e.lo < 2 ^ 64 → T (all is_byte (bytes_of e))
bytes_below e h l = all_join (word_bytes e.hi) (word_bytes e.lo) (word_below e.hi h) (word_below e.lo l)

-- The serial, then the code.
pub serial_and_code : (e : Entry) → serial_of e ++ code_of e ≡ bytes_of e
serial_and_code e = take-append-drop serial_length (bytes_of e)

-- "any bytes": the code has no part in whether an entry is well formed.
pub any_code : (a b : Entry) → serial_of a ≡ serial_of b → well_formed a ≡ well_formed b
unfolding well_formed
any_code a b e = ap serial e

pub all_append : (test : ℕ → Bool) (xs ys : List ℕ) → T (all test (xs ++ ys)) → T (all test xs) × T (all test ys)
all_append test [] ys h = (tt, h)
all_append test (x ∷ xs) ys h =
    let r = all_append test xs ys (and_r (test x) (all test (xs ++ ys)) h) in
    (and_i (test x) (all test xs) (and_l (test x) (all test (xs ++ ys)) h) r.0, r.1)

pub words_back : (bs : List ℕ) → length bs ≡ 16 → T (all is_byte bs) → bytes_of (entry_of bs) ≡ bs
words_back bs n h =
    let both = all_append is_byte (take 8 bs) (drop 8 bs) (subst (λ (s : List ℕ). T (all is_byte s)) (sym (take-append-drop 8 bs)) h) in
    ap₂ (λ (xs ys : List ℕ). xs ++ ys)
    (word_made (take 8 bs) (simp length-take (omega arith)) both.0)
    (word_made (drop 8 bs) (simp length-drop (omega arith)) both.1)
    ∙ take-append-drop 8 bs

-- Blanks count: with its blanks left out each of these two would read "A12xyz".
abbrev pub shorter : Entry
shorter = entry_of (0x41 ∷ 0x31 ∷ replicate 10 0x20 ++ (0x32 ∷ 0x78 ∷ 0x79 ∷ 0x7A ∷ []))

abbrev pub longer : Entry
longer = entry_of (0x41 ∷ 0x31 ∷ 0x32 ∷ replicate 9 0x20 ++ (0x20 ∷ 0x78 ∷ 0x79 ∷ 0x7A ∷ []))

pub different : (well_formed shorter ≡ true) × (well_formed longer ≡ true) × (same shorter longer ≡ false)
unfolding well_formed same
different = (refl, refl, refl)

-- A device needs a serial: twelve blanks are none, and one visible byte with eleven blanks is the shortest.
abbrev pub unnamed : Entry
unnamed = entry_of (replicate 12 0x20 ++ (0x00 ∷ 0x00 ∷ 0x00 ∷ 0x01 ∷ []))

abbrev pub shortest : Entry
shortest = entry_of (0x21 ∷ replicate 11 0x20 ++ (0x00 ∷ 0x00 ∷ 0x00 ∷ 0x01 ∷ []))

pub one_byte_needed : (all blank (serial_of unnamed) ≡ true) × (well_formed unnamed ≡ false) × (well_formed shortest ≡ true)
unfolding well_formed
one_byte_needed = (refl, refl, refl)
