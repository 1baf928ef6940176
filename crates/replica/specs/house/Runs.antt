-- Demand 3: the seats of a house, and every order of steps.
use Rattle.std.specs.Prelude.{ℕ, ◌≤◌, ◌<◌, ◌≡◌, Bool, not, cond, List, [], ◌∷◌, ◌++◌, ◌⊎◌, T, eqb, Option as Maybe, None, Some}
use Rattle.std.proofs.Math.Option.{Option, none, some}
use Rattle.base.specs.Refusal.{first}
use Rattle.entry.specs.declared.Entry.{Entry}
use Rattle.entry.specs.Entry.{well_formed}
use Rattle.seats.specs.Seats.{count}
use Rattle.seats.specs.Sizes.{size_refusals}
use Rattle.votes.specs.declared.Row.{Row}
use Rattle.messages.specs.declared.Message.{Message}
use Rattle.messages.specs.declared.Message.TheVariants.{Start, Enter, Propose, Acknowledge, Cast, Ask, Confirm}
use Rattle.replica.specs.declared.Replica.{Replica}
use Rattle.replica.specs.declared.Step.{Step}
use Rattle.replica.specs.Steps.{setup_step, request_rows, step}
use Rattle.replica.specs.house.Claims.{Claim, said, claims}

-- ---- one seat

-- A seat that has begun: its replica, what it sent, each Q with its rows, and the decisions that it reported. Latest first.
pub record Member : Type 0 where
  pub replica : Replica
  pub sent : List (Message × List Row)
  pub reports : List Entry

-- "sends Q with all filled rows in seat order": those of the replica handed back. No other message has rows.
abbrev pub rows_beside : Replica → Message → List Row
rows_beside s Start = []
rows_beside s (Enter v) = []
rows_beside s (Propose p) = []
rows_beside s (Acknowledge a) = []
rows_beside s (Cast r) = []
rows_beside s (Ask q) = request_rows s
rows_beside s (Confirm c) = []

-- "at most one outgoing message"
abbrev pub sending : Replica → Maybe Message → List (Message × List Row)
sending s None = []
sending s (Some m) = (m, rows_beside s m) ∷ []

-- "and possibly a decision come out": what the answer says, not what a field holds.
abbrev pub reporting : Maybe Entry → List Entry
reporting None = []
reporting (Some e) = e ∷ []

abbrev pub begun : Step → Member
begun t = record { replica = t.next; sent = sending t.next t.sent; reports = reporting t.decided }

abbrev pub after : Member → Step → Member
after m t = record {
  replica = t.next;
  sent = sending t.next t.sent ++ m.sent;
  reports = reporting t.decided ++ m.reports;
}

-- ---- all seats

-- By seat number: those that have begun. Only correct seats do; a faulty one has no state here and may have sent anything.
abbrev pub Members : Type 0
Members = ℕ → Option Member

abbrev pub placed : Members → ℕ → Member → Members
placed h k m j = cond (eqb j k) (some m) (h j)

abbrev pub Among : {A : Type 0} → A → List A → Type 0
Among x [] = ⊥
Among x (y ∷ ys) = (x ≡ y) ⊎ Among x ys

-- What the marks on a seat's own messages say: the statements that it sent.
abbrev pub all_said : List (Message × List Row) → List Claim
all_said [] = []
all_said (x ∷ xs) = said x.0 ++ all_said xs

abbrev pub sent_by : Option Member → List (Message × List Row)
sent_by none = []
sent_by (some m) = m.sent

abbrev pub reports_of : Option Member → List Entry
reports_of none = []
reports_of (some m) = m.reports

abbrev pub Said : Members → Claim → Type 0
Said h c = Among c (all_said (sent_by (h c.0)))

abbrev pub Reported : Members → ℕ → Entry → Type 0
Reported h k e = Among e (reports_of (h k))

-- ---- runs

-- "Let n and f be as the rules allow, at most f seats be faulty".
pub record Setting (n f : ℕ) (faulty : ℕ → Bool) : Type 0 where
  pub allowed : first (size_refusals n f) ≡ 0
  pub few : count faulty n ≤ f

module _ (n : ℕ) (faulty : ℕ → Bool) where
  abbrev pub Correct : ℕ → Type 0
  Correct k = (k < n) × T (not (faulty k))

  -- "Let a verified mark or mask bit for a correct seat appear only for a statement that this seat sent": before this step.
  abbrev pub Covered : Members → Message → List Row → Type 0
  Covered h m rows = (c : Claim) → Among c (claims n m rows) → Correct c.0 → Said h c

module _ (n f : ℕ) (faulty : ℕ → Bool) where
  -- "in every order of steps". A step hands any event that is covered to any correct seat that has begun. So a message may be lost, as no
  -- step need hand it over; repeated or late, as it may be handed over again and at any time; altered or made up, as far as marks allow;
  -- and a view changes whenever an E is handed over, at will.
  pub data Run : Members → Type 0 where
    nobody : Run (λ k. none)
    -- "every correct seat start fresh, once, with the same n and f and its own number"
    begins : {h : Members} → Run h → (k : ℕ) → Correct n faulty k → h k ≡ none → (own : Entry) → T (well_formed own)
        → Run (placed h k (begun (setup_step n f (record { 0 = k }) own)))
    takes : {h : Members} → Run h → (k : ℕ) → Correct n faulty k → (m : Member) → h k ≡ some m → (message : Message) (rows : List Row)
        → Covered n faulty h message rows → Run (placed h k (after m (step m.replica message rows)))
