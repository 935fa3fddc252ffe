-- A thread that went.
use Rattle.std.proofs.{Common.{◌≡◌, ◌≤◌, ◌∙◌, inl, inr, ℕ, [], ◌∷◌, true, false, refl, sym, subst, arith, Contains}, lemmas.Bool.{cases_eq}}
use Rattle.rm_base.specs.{Content.{padded, zero_block}, declared.block.{Block.{Block}, Change.{Change}, Row.{Row}}}
use Rattle.rm_base.proofs.Members.{in-front, behind, none-in, first-or-rest}
use Rattle.rm_history.specs.{Agrees.{BaseAgrees, LogAgrees}, History.{IsHistory}, Threads.{IsEnabled, applies, is_enabled}, Tree.{owner}}
use Rattle.rm_history.specs.{Evidence.{Agrees}, Example.{world, change, history, copy, log, disabled, smaller, last_log, whole}}
use Rattle.rm_history.specs.FirstGap.{IsTarget}
use Rattle.rm_history.specs.Known.{Determined, HasLog, HasRow, Quiet, Seen, by_creation, by_log, by_logs, by_row, in_base, in_level1}
use Rattle.rm_history.{specs.declared.world.Datafile.{Datafile}, proofs.{Histories.{IsHistory-with_switch}, Owners.{owner-first}}}
use Rattle.rm_history.proofs.{Worlds.{BaseAgrees-with_switch}, Example.{evidence-agrees, file-is, history-is, only, target}}

both : {X : Type 0} (P : X → Type 0) (x y : X) → P x → P y → (z : X) → Contains (x ∷ y ∷ []) z → P z
both P x y one two z held = elim (first-or-rest x (y ∷ []) z held) [
  | inl same ↦ subst P same one
  | inr rest ↦ only P y two z rest
]

pub smaller-history : IsHistory smaller history
smaller-history = IsHistory-with_switch world disabled history (both (λ c. applies world.tree c.inc c.scn c.thread disabled ≡ false) (change 1 2 65) (change 2 3 66) refl refl) history-is

pub smaller-agrees : Agrees smaller history whole
smaller-agrees = record {
  bases = only (BaseAgrees smaller history) copy (BaseAgrees-with_switch world disabled history copy (evidence-agrees.bases copy (in-front copy [])));
  level1s = λ a held. absurd (none-in a held);
  logs = both (LogAgrees history) log last_log refl refl;
}

pub smaller-target : IsTarget smaller 1 5 1 0
smaller-target =
    let was = target 5 (omega arith) in
    record { there = was.there; datafile = was.datafile; is = was.is; exists = was.exists; block = was.block }

gone : is_enabled smaller.tree smaller.threads smaller.switches 1 4 2 ≡ false
unfolding is_enabled owner
gone = refl

none-three : is_enabled smaller.tree smaller.threads smaller.switches 1 4 3 ≡ false
unfolding is_enabled
none-three = refl

none-four : is_enabled smaller.tree smaller.threads smaller.switches 1 4 4 ≡ false
unfolding is_enabled
none-four = refl

-- of the threads only the first is enabled at 4
not-on : (t : ℕ) → is_enabled smaller.tree smaller.threads smaller.switches 1 4 t ≡ false → ¬ IsEnabled smaller 1 4 t
not-on t off is = let clash : true ≡ false = sym is.on ∙ off in absurd (cc)

first-alone : (t : ℕ) → IsEnabled smaller 1 4 t → 1 ≡ t
first-alone t is = elim (cases_eq t 2) [
  | inl two ↦ absurd (not-on t (subst (λ n. is_enabled smaller.tree smaller.threads smaller.switches 1 4 n ≡ false) (sym two) gone) is)
  | inr not-two ↦ elim (cases_eq t 3) [
    | inl three ↦ absurd (not-on t (subst (λ n. is_enabled smaller.tree smaller.threads smaller.switches 1 4 n ≡ false) (sym three) none-three) is)
    | inr not-three ↦ elim (cases_eq t 4) [
      | inl four ↦ absurd (not-on t (subst (λ n. is_enabled smaller.tree smaller.threads smaller.switches 1 4 n ≡ false) (sym four) none-four) is)
      | inr not-four ↦ let some = is.number.0 in let few = is.number.1 in omega (arith, some, few, not-two, not-three, not-four)
    ]
  ]
]

has-first : HasLog whole 1 4 1
has-first = record { log = log; holds = record { log = in-front log (last_log ∷ []); inc = refl; first = omega arith; next = omega arith }; thread = refl }

quiet-here : Quiet smaller whole 1 0 1 4
quiet-here = by_logs (λ t is. subst (HasLog whole 1 4) (first-alone t is) has-first)
    (λ a c holds has. both (λ x. (c : Change) → Contains x.changes c → ¬ (c.scn ≡ 4)) log last_log
    (only (λ c. ¬ (c.scn ≡ 4)) (change 1 2 65) (λ e. absurd (omega (arith, e)))) (only (λ c. ¬ (c.scn ≡ 4)) (change 2 3 66) (λ e. absurd (omega (arith, e)))) a has.log c has.change)

row-low : (j k : ℕ) (r : Row) → HasRow whole 1 0 j k r → r.version ≡ 1
row-low _ _ _ (in_base a r base held _ _) = only (λ x. (r : Row) → Contains x.rows r → r.version ≡ 1) copy (only (λ r. r.version ≡ 1) (record { block = 0; version = 1; content = zero_block }) refl) a base r held
row-low _ _ _ (in_level1 a r level1 held _ _) = absurd (none-in a level1)

seen-low : (m u : ℕ) (x : Block) → Seen smaller whole 1 0 m u x → u ≤ 3
seen-low _ _ _ (by_row j k r has) = let low = row-low j k r has in omega (arith, low)
seen-low _ _ _ (by_log a c has) =
    both (λ x. (c : Change) → Contains x.changes c → c.scn ≤ 3) log last_log
    (only (λ c. c.scn ≤ 3) (change 1 2 65) (omega arith)) (only (λ c. c.scn ≤ 3) (change 2 3 66) (omega arith)) a has.log c has.change
seen-low _ _ _ (by_creation d is) = subst (λ (x : Datafile). x.creation ≤ 3) (file-is 1 d is) (omega arith)

seen-last : Seen smaller whole 1 0 (owner smaller.tree 1 3) 3 (padded (66 ∷ []))
seen-last =
    subst (λ m. Seen smaller whole 1 0 m 3 (padded (66 ∷ []))) (sym (owner-first smaller.tree 3))
    (by_log last_log (change 2 3 66) (record { log = behind log (last_log ∷ []) last_log (in-front last_log []); change = in-front (change 2 3 66) []; file = refl; block = refl }))

pub smaller-told : Determined smaller whole 1 5 1 0 3 (padded (66 ∷ []))
smaller-told = record {
  greatest = record { below = omega arith; content = padded (66 ∷ []); seen = seen-last; most = λ u x below seen. seen-low (owner smaller.tree 1 u) u x seen };
  seen = seen-last;
  quiet = λ g above below.
      let four : 4 ≡ g = omega (arith, above, below) in
      subst (λ n. Quiet smaller whole 1 0 (owner smaller.tree 1 n) n) four (subst (λ m. Quiet smaller whole 1 0 m 4) (sym (owner-first smaller.tree 4)) quiet-here);
}
