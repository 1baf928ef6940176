-- 01, "Seats, views, entries": the entry, on its list of 16 bytes.
use Rattle.std.specs.Prelude.{ℕ, zero, suc, ◌/◌, ◌%◌, ◌^◌, ◌*◌, ◌+◌, Bool, true, false, ◌&&◌, ◌||◌, List, [], ◌∷◌, ◌++◌, eqb, ltb, leb, take, drop}
use Rattle.entry.specs.declared.Entry.{Entry}

-- The k lowest bytes of a word, the highest of them first.
abbrev pub low_bytes : ℕ → ℕ → List ℕ
low_bytes zero w = []
low_bytes (suc k) w = w / 256 ^ k % 256 ∷ low_bytes k w

-- A word is eight bytes, the highest first.
abbrev pub word_bytes : ℕ → List ℕ
word_bytes w = w / 256 ^ 7 ∷ low_bytes 7 w

-- "An entry is 16 bytes."
abbrev pub bytes_of : Entry → List ℕ
bytes_of e = word_bytes e.hi ++ word_bytes e.lo

-- "Bytes 0 to 11 are the serial": how many they are.
abbrev pub serial_length : ℕ
serial_length = 12

abbrev pub serial_of : Entry → List ℕ
serial_of e = take serial_length (bytes_of e)

-- "Bytes 12 to 15 are an event code, any bytes."
abbrev pub code_of : Entry → List ℕ
code_of e = drop serial_length (bytes_of e)

-- Whether every byte of a list passes a test.
abbrev pub all : (ℕ → Bool) → List ℕ → Bool
all test [] = true
all test (x ∷ xs) = test x && all test xs

-- "bytes 0x21 to 0x7E"
abbrev pub visible : ℕ → Bool
visible x = leb 0x21 x && leb x 0x7E

abbrev pub blank : ℕ → Bool
blank x = eqb x 0x20

-- "bytes 0x21 to 0x7E, then only 0x20 to the end": here either stretch may be missing.
abbrev pub stretched : List ℕ → Bool
stretched [] = true
stretched (x ∷ xs) = (visible x && stretched xs) || all blank (x ∷ xs)

-- 02, Two: "at least one byte of 0x21 to 0x7E must come first"
abbrev pub serial : List ℕ → Bool
serial [] = false
serial (x ∷ xs) = visible x && stretched xs

unfoldable pub well_formed : Entry → Bool
well_formed e = serial (serial_of e)

-- "Two entries are equal when all 16 bytes are."
abbrev pub same_bytes : List ℕ → List ℕ → Bool
same_bytes [] [] = true
same_bytes [] (y ∷ ys) = false
same_bytes (x ∷ xs) [] = false
same_bytes (x ∷ xs) (y ∷ ys) = eqb x y && same_bytes xs ys

unfoldable pub same : Entry → Entry → Bool
same a b = same_bytes (bytes_of a) (bytes_of b)

-- "bytes compared left to right, unsigned"
abbrev pub less_bytes : List ℕ → List ℕ → Bool
less_bytes [] ys = false
less_bytes (x ∷ xs) [] = false
less_bytes (x ∷ xs) (y ∷ ys) = ltb x y || (eqb x y && less_bytes xs ys)

unfoldable pub less : Entry → Entry → Bool
less a b = less_bytes (bytes_of a) (bytes_of b)

-- The entry of two words; of two zeros it is the zero entry.
abbrev pub of_words : ℕ → ℕ → Entry
of_words h l = record { hi = h; lo = l }

abbrev pub zero_entry : Entry
zero_entry = of_words 0 0

-- The word that bytes read left to right make, behind a word w that was read before them.
abbrev pub word_of : ℕ → List ℕ → ℕ
word_of w [] = w
word_of w (x ∷ xs) = word_of (w * 256 + x) xs

-- The entry whose bytes these 16 are.
abbrev pub entry_of : List ℕ → Entry
entry_of bs = of_words (word_of 0 (take 8 bs)) (word_of 0 (drop 8 bs))
