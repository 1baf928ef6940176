-- The line H: what is written is read, and what is read was written.
use Rattle.std.specs.Prelude.{ℕ, ◌≤◌, ◌≡◌, refl, Bool, true, false, cond, List, [], ◌∷◌, ◌++◌, eqb, length, Option, Some, None, IfSome}
use Rattle.std.proofs.Common.{sym, ap, ◌∙◌, subst, arith, lit<, lit≤, eqb-true}
use Rattle.std.proofs.lemmas.Option.{option_and_then_some, same_Some, none-some}
use Rattle.text.specs.DecimalLaws.{decimal_short, decimal_length}
use Rattle.text.specs.Digits.{decimal, letter_of}
use Rattle.text.specs.FieldLaws.{Ahead, over_reads, over_exact, kind_reads, line_ahead, kind_exact, line_front, line_size, tabbed_length}
use Rattle.text.specs.Fields.{line_end, field_at, end_behind, over}
use Rattle.entry.specs.Entry.{zero_entry}
use Rattle.entry.specs.Hex.{entry_text}
use Rattle.entry.specs.HexLaws.{zero_is_entry, text_length}
use Rattle.messages.specs.declared.setup.Setup.{Setup}
use Rattle.messages.specs.Lines.{dash, seat}
use Rattle.messages.specs.Longest.{longest_read}
use Rattle.messages.specs.Reader.{number_at, dash_at, entry_at}
use Rattle.messages.specs.Setup.{top_setup, setup_kind, faulty, setup_fields, IsSetupLine, FitsSetup, ReadsSetup, opening_number}
use Rattle.messages.specs.Setup.{faulty_at, sizes_at, setup_at, read_setup}
use Rattle.messages.specs.AtLaws.{let_through, number_back, number_no_dash, entry_back, dash_back}
use Rattle.messages.specs.AtLaws.{number_written, entry_written, dash_written}

-- n, and f or a dash, are read where they were written.
sizes_back : (t : List ℕ) (e : ℕ) (fs : List (List ℕ)) (n : ℕ) (f : Option ℕ) → n ≤ top_setup → IfSome f (λ f. f ≤ top_setup)
    → Ahead t e (decimal n ∷ faulty f ∷ fs)
    → (end : ℕ) × (sizes_at t e ≡ Some (n, f, end)) × Ahead t end fs
unfolding sizes_at
sizes_back t e fs n None hn hf a =
    let x = number_back t e ((dash ∷ []) ∷ fs) top_setup n (lit< tt) hn a in
    let d = dash_back t (end_behind t e) fs x.1 in
    (end_behind t (end_behind t e), simp (x.0, d.0), d.1)
sizes_back t e fs n (Some f) hn hf a =
    let x = number_back t e (decimal f ∷ fs) top_setup n (lit< tt) hn a in
    let d = number_no_dash t (end_behind t e) fs f x.1 in
    let y = number_back t (end_behind t e) fs top_setup f (lit< tt) hf x.1 in
    (end_behind t (end_behind t e), simp (x.0, d, y.0), y.1)

-- What n, and f or a dash, that were read tell.
abbrev Sizes : List ℕ → ℕ → List (List ℕ) → ℕ × Option ℕ × ℕ → Type 0
Sizes t e fs z = Ahead t e (decimal z.0 ∷ faulty z.1 ∷ fs) × ((z.0 ≤ top_setup) × IfSome z.1 (λ f. f ≤ top_setup))

module _ (t : List ℕ) (e : ℕ) (fs : List (List ℕ)) (z : ℕ × Option ℕ × ℕ) (a : Ahead t z.2 fs) where
  faulty_written : (n : ℕ × ℕ) → number_at t e top_setup ≡ Some n → (d : Option ℕ) → dash_at t n.1 ≡ d → faulty_at t n d ≡ Some z
      → Sizes t e fs z
  faulty_written n is (Some end) d g =
      let same = same_Some _ z g in
      let there = subst (λ (z : ℕ × Option ℕ × ℕ). Ahead t z.2 fs) (sym same) a in
      let d-written = dash_written t n.1 fs end there d in
      let n-written = number_written t e ((dash ∷ []) ∷ fs) n.1 d-written top_setup (lit< tt) n.0 is in
      subst (Sizes t e fs) same (n-written.0, (n-written.1, tt))
  faulty_written n is None d g =
      option_and_then_some _ (number_at t n.1 top_setup) z g λ f is_f rest.
      let same = same_Some _ z rest in
      let there = subst (λ (z : ℕ × Option ℕ × ℕ). Ahead t z.2 fs) (sym same) a in
      let f-written = number_written t n.1 fs f.1 there top_setup (lit< tt) f.0 is_f in
      let n-written = number_written t e (decimal f.0 ∷ fs) n.1 f-written.0 top_setup (lit< tt) n.0 is in
      subst (Sizes t e fs) same (n-written.0, (n-written.1, f-written.1))

  -- They were written where they are read.
  sizes_written : sizes_at t e ≡ Some z → Sizes t e fs z
  unfolding sizes_at
  sizes_written g =
      option_and_then_some _ (number_at t e top_setup) z g λ n is rest.
      faulty_written n is (dash_at t n.1) refl rest

-- A line of an H reads as the H.
pub setup_reads_back : (l : List ℕ) (h : Setup) → FitsSetup h → IsSetupLine l h → read_setup l ≡ Some h
unfolding read_setup setup_at IsSetupLine
setup_reads_back l h f is =
    let own = seat h.seat ∷ entry_text h.entry ∷ [] in
    let k = kind_reads l setup_kind (setup_fields h) refl is in
    let (end, z, rest) = sizes_back l 1 own h.n h.f f.n f.f (line_ahead l setup_kind (setup_fields h) is) in
    let s = number_back l end (entry_text h.entry ∷ []) top_setup h.seat.0 (lit< tt) f.seat rest in
    let x = entry_back l (end_behind l end) [] h.entry f.entry s.1 in
    let o = over_reads l (end_behind l (end_behind l end)) x.1 in
    simp (k, z, s.0, x.0, o)

-- What stands behind the kind was written there.
setup_exact : (t : List ℕ) (e : ℕ) (h : Setup) → setup_at t e ≡ Some h → Ahead t e (setup_fields h) × FitsSetup h
unfolding setup_at
setup_exact t e h g =
    option_and_then_some _ (sizes_at t e) h g λ z is_z g₁.
    option_and_then_some _ (number_at t z.2 top_setup) h g₁ λ s is_s g₂.
    option_and_then_some _ (entry_at t s.1) h g₂ λ x is_x g₃.
    let said : Setup = record { n = z.0; f = z.1; seat = record { 0 = s.0 }; entry = x.0 } in
    let both = let_through (over t x.1) said h g₃ in
    let x-field = entry_text x.0 ∷ [] in
    let x-written = entry_written t s.1 [] x.1 (over_exact t x.1 both.0) x.0 is_x in
    let s-written = number_written t z.2 x-field s.1 x-written.0 top_setup (lit< tt) s.0 is_s in
    let z-written = sizes_written t e (decimal s.0 ∷ x-field) z s-written.0 is_z in
    subst (λ (h : Setup). Ahead t e (setup_fields h) × FitsSetup h) both.1 (
      z-written.0,
      record { n = z-written.1.0; f = z-written.1.1; seat = s-written.1; entry = x-written.1 },
    )

-- What reads as an H is the H's line.
pub setup_was_written : (l : List ℕ) (h : Setup) → read_setup l ≡ Some h → IsSetupLine l h × FitsSetup h
unfolding read_setup IsSetupLine
setup_was_written l h e =
    option_and_then_some _ (letter_of (field_at l 0)) h e λ k is rest.
    let kind = only k (eqb k setup_kind) refl rest in
    let w = setup_exact l 1 h kind.1 in
    (kind_exact l setup_kind (setup_fields h) (is ∙ ap Some (eqb-true k setup_kind kind.0)) w.0, w.1)
  where
    only : (k : ℕ) (c : Bool) → eqb k setup_kind ≡ c → cond c (setup_at l 1) None ≡ Some h
        → (eqb k setup_kind ≡ true) × (setup_at l 1 ≡ Some h)
    only k true q r = (q, r)
    only k false q r = absurd (none-some h r)

-- ---- the reader's contract: the reader meets it, and nothing else does
pub reads_setup : (l : List ℕ) → ReadsSetup l (read_setup l)
reads_setup l = go (read_setup l) refl
  where
    go : (r : Option Setup) → read_setup l ≡ r → ReadsSetup l r
    go (Some h) e = setup_was_written l h e
    go None e = λ h f is. let n = ap opening_number (sym e ∙ setup_reads_back l h f is) in omega arith

-- Every answer that meets the contract is the reader's.
pub setup_only : (l : List ℕ) (r : Option Setup) → ReadsSetup l r → r ≡ read_setup l
setup_only l (Some h) a = sym (setup_reads_back l h a.1 a.0)
setup_only l None a = go (read_setup l) refl
  where
    go : (r : Option Setup) → read_setup l ≡ r → None ≡ r
    go (Some h) e = let w = setup_was_written l h e in absurd (a h w.1 w.0)
    go None e = refl

pub setup_unique : (l : List ℕ) (r s : Option Setup) → ReadsSetup l r → ReadsSetup l s → r ≡ s
setup_unique l r s a b = setup_only l r a ∙ sym (setup_only l s b)

-- ---- how long it is, and its last byte
faulty_short : (f : Option ℕ) → IfSome f (λ f. f ≤ top_setup) → length (faulty f) ≤ 2
faulty_short None h = lit≤ tt
faulty_short (Some f) h = omega (arith, decimal_length f, decimal_short 1 f (omega arith) (lit≤ tt))

pub setup_short : (l : List ℕ) (h : Setup) → FitsSetup h → IsSetupLine l h → length l ≤ longest_read
unfolding IsSetupLine
setup_short l h f is =
    let own = seat h.seat ∷ entry_text h.entry ∷ [] in
    let n = tabbed_length (decimal h.n) (faulty h.f ∷ own) in
    let x = tabbed_length (faulty h.f) own in
    let s = tabbed_length (seat h.seat) (entry_text h.entry ∷ []) in
    let e = tabbed_length (entry_text h.entry) [] in
    let ns = faulty_short (Some h.n) f.n in
    let xs = faulty_short h.f f.f in
    let ss = faulty_short (Some h.seat.0) f.seat in
    omega (arith, line_size l setup_kind (setup_fields h) is, text_length h.entry)

pub setup_ended : (l : List ℕ) (h : Setup) → IsSetupLine l h → (w : List ℕ) × (l ≡ w ++ line_end)
unfolding IsSetupLine
setup_ended l h is = line_front l setup_kind (setup_fields h) is

-- ---- H that fit, with an f and with a dash
abbrev pub some_setup : Bool → Setup
some_setup dashed = record { n = 4; f = cond dashed None (Some 1); seat = record { 0 = 0 }; entry = zero_entry }

pub some_fit : (dashed : Bool) → FitsSetup (some_setup dashed)
some_fit true = record { n = lit≤ tt; f = tt; seat = lit≤ tt; entry = zero_is_entry }
some_fit false = record { n = lit≤ tt; f = lit≤ tt; seat = lit≤ tt; entry = zero_is_entry }
