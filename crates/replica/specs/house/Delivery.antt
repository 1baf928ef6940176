-- The premise of a step shuts out no message as a correct seat sent it: it may be handed to any seat, at once or later.
use Rattle.std.specs.Prelude.{ℕ, ◌≡◌, refl, Bool, cond, List}
use Rattle.std.proofs.Common.{sym, subst, eq-eqb}
use Rattle.std.proofs.Math.Option.{Option, none, some}
use Rattle.seats.specs.declared.View.{View}
use Rattle.votes.specs.declared.Row.{Row}
use Rattle.messages.specs.declared.Message.{Message}
use Rattle.messages.specs.declared.Message.TheVariants.{Start, Enter}
use Rattle.replica.specs.Replica.{fresh}
use Rattle.replica.specs.Steps.{quiet, step}
use Rattle.replica.specs.house.Claims.{Statement, Claim, claims}
use Rattle.replica.specs.house.Runs.{Member, begun, after, Members, placed, Among, all_said, sent_by, Said}
use Rattle.replica.specs.house.Runs.{Setting, Covered, Run, nobody, begins, takes}
use Rattle.replica.specs.house.Seating.{setup_fresh}
use Rattle.replica.specs.house.ClaimLaws.{each_in, each_all}
use Rattle.replica.specs.house.Histories.{Told}
use Rattle.replica.specs.house.Invariant.{placed_all, said_still}
use Rattle.replica.specs.house.FairSteps.{setting_sizes}
use Rattle.replica.specs.house.EveryRun.{run_kept}
use Rattle.replica.specs.house.Held.{Held, Sends, emptied, held_step, held_on, sends_on}

-- ---- a seat goes on to member m
module _ (h : Members) (k : ℕ) (m : Member) where
  -- Where it takes nothing back, the house does not.
  said_on : ((c : Claim) → Among c (all_said (sent_by (h k))) → Among c (all_said m.sent)) → (c : Claim) → Said h c → Said (placed h k m) c
  said_on keep c = placed_all h k m (λ j o. (d : Claim) → Among d (all_said (sent_by (h j))) → Among d (all_said (sent_by o))) keep (λ j d a. a) c.0 c

  -- What it has said is said in the house.
  said_here : (x : Statement) → Among (k, x) (all_said m.sent) → Said (placed h k m) (k, x)
  said_here x a = subst (λ b. Among (k, x) (all_said (sent_by (cond b (some m) (h k))))) (sym (eq-eqb k k refl)) a

-- ---- every seat of a run
module _ (n f : ℕ) (faulty : ℕ → Bool) where
  -- All that a seat holds and has sent: of a correct seat it tells only what that seat said.
  abbrev Passing : Members → Option Member → Type 0
  Passing h none = Unit {0}
  Passing h (some m) = Held (Told n f faulty h) n m.replica × Sends (Told n f faulty h) n m.sent

  -- As more is said, no claim fails that passed.
  passing_on : (h g : Members) → ((c : Claim) → Said h c → Said g c) → (o : Option Member) → Passing h o → Passing g o
  passing_on h g up none x = tt
  passing_on h g up (some m) x =
      let more : (c : Claim) → Told n f faulty h c → Told n f faulty g c = λ c t o. up c (t o) in
      (held_on _ _ n more m.replica x.0, sends_on _ _ n more m.sent x.1)

  -- One seat goes on to a member that passes, and nothing is taken back.
  put_passing : (h : Members) (k : ℕ) (m : Member) → ((c : Claim) → Said h c → Said (placed h k m) c) → ((j : ℕ) → Passing h (h j))
      → Passing (placed h k m) (some m) → (j : ℕ) → Passing (placed h k m) (placed h k m j)
  put_passing h k m up all now = placed_all h k m (λ j o. Passing (placed h k m) o) now (λ j. passing_on h (placed h k m) up (h j) (all j))

  -- What a seat is handed was said, and so is now what it says itself: then it hands on only what was said.
  run_passing : Setting n f faulty → {h : Members} → Run n f faulty h → (j : ℕ) → Passing h (h j)
  run_passing setting nobody = λ j. tt
  run_passing setting (begins {h = h} run k o e own w) =
      let m = begun (quiet (fresh n f (record { 0 = k }) own)) in
      subst (λ t. (j : ℕ) → Passing (placed h k (begun t)) (placed h k (begun t) j)) (sym (setup_fresh n f k own setting.allowed o.0 w))
      (put_passing h k m (said_on h k m (rw e (λ c a. a))) (run_passing setting run) (emptied _ n tt, tt))
  run_passing setting (takes {h = h} run k o m e message rows covered) =
      let t = step m.replica message rows in
      let next = after m t in
      let P = Told n f faulty (placed h k next) in
      let seated = (run_kept n f faulty setting run k m e).seated in
      let up = said_on h k next (rw e (said_still m t)) in
      let old = passing_on h (placed h k next) up (some m) (subst (Passing h) e (run_passing setting run k)) in
      let heard = each_all P (claims n message rows) (λ c a o. up c (covered c a o)) in
      let own : (x : Statement) → Among (m.replica.seat.0, x) (all_said next.sent) → P (m.replica.seat.0, x) =
      subst (λ j. (x : Statement) → Among (j, x) (all_said next.sent) → P (j, x)) (sym seated.own_seat) (λ x a o. said_here h k next x a) in
      put_passing h k next up (run_passing setting run)
      (held_step P n (setting_sizes n f faulty setting).most m seated.same_n old.0 old.1 message rows heard own)

-- The premise of a step shuts out no message as a correct seat sent it.
pub delivery : (n f : ℕ) (faulty : ℕ → Bool) → Setting n f faulty → (h : Members) → Run n f faulty h → (k : ℕ) (m : Member) → h k ≡ some m
    → (message : Message) (rows : List Row) → Among (message, rows) m.sent → Covered n faulty h message rows
delivery n f faulty setting h run k m e message rows a =
    let x = subst (Passing n f faulty h) e (run_passing n f faulty setting run k) in
    λ c. each_in (Told n f faulty h) c (claims n message rows) (each_in _ (message, rows) m.sent x.1 a)

-- "views changed at will": an E asserts nothing, so it may be handed to any seat at any time. So may an S.
pub at_will : (n : ℕ) (faulty : ℕ → Bool) (h : Members) (rows : List Row)
    → ((v : View) → Covered n faulty h (Enter v) rows) × Covered n faulty h Start rows
at_will n faulty h rows = (λ v c a o. absurd a, λ c a o. absurd a)
