-- The change that may stand at a gap, and the thread that may have made it.
use Rattle.std.proofs.Common.{◌≡◌, ◌<◌, ◌≤◌, ◌∙◌, ◌⊎◌, ◌==◌, ◌&&◌, inl, inr, nat_lt, ℕ, zero, suc, List, [], ◌∷◌, ◌++◌, true, false, refl, ap, sym, subst, arith, Contains}
use Rattle.std.proofs.lemmas.Bool.{cases_Bool, cases_lt, Decides.{nat_tests}}
use Rattle.rm_base.{specs.{Content.{zero_block}, declared.block.{Block.{Block}, Change.{Change}}}, proofs.Lists.{find_passing}}
use Rattle.rm_history.specs.{Artefacts.{Log}, Threads.{IsEnabled}, Tree.{IsThere, owner, reset_of}}
use Rattle.rm_history.specs.{History.{IsChange, IsHistory, SamePlace}, State.{concerns}, Agrees.{is_of}, Evidence.{Evidence, Agrees}}
use Rattle.rm_history.specs.{Known.{HasChange, Seen, by_log, by_creation, Holds, HasLog, Quiet, by_logs, IsGap}, FirstGap.{IsTarget}}
use Rattle.rm_history.specs.{Unknown.{IsWorld, without, changed, IsPossible, LacksLog, CouldBe}, declared.world.World.{World}}
use Rattle.rm_history.proofs.{Growth.{state-push_top}, Histories.{IsHistory-push}, Owners.{owner-there, owner-begun, owner-owner}}
use Rattle.rm_history.proofs.{States.{concerns-from}, Enabled.{enabled-or-not}, Logs.{is_of-parts, is_of-from}}
use Rattle.rm_history.proofs.{Removal.{removed, removed-top}, Unquiet.{unquiet-agrees}}

exists-parts : (creation s owned inc : ℕ) → (nat_lt creation s && (owned == inc)) ≡ true → (creation < s) × (owned ≡ inc)
exists-parts creation s owned inc is = grind (arith, nat_tests)

module _ (w : World) (e : Evidence) (i s f b v m g : ℕ) (gap : IsGap w e i s f b v m g) where
  -- a change of the block at the gap
  abbrev new : ℕ → Block → Change
  new t x = record { inc = m; thread = t; scn = g; file = f; block = b; content = x }

  -- no log tells of one
  none-listed : (a : Log) (c : Change) → Holds e m g a → HasChange e f b a c → ¬ (c.scn ≡ g)
  none-listed a c holds has here =
      let above = gap.above in
      let at_gap : Seen w e f b a.inc g c.content = subst (λ n. Seen w e f b a.inc n c.content) here (by_log a c has) in
      let seen : Seen w e f b (owner w.tree i g) g c.content = subst (λ j. Seen w e f b j g c.content) (holds.inc ∙ sym gap.owned) at_gap in
      let low : g ≤ v = gap.greatest.most g c.content gap.below seen in
      omega (arith, low, above)

  log-held : (t : ℕ) (x : Block) (a : Log) → Contains e.logs a → is_of a (new t x) ≡ true → HasLog e m g t
  log-held t x a log is =
      let of = is_of-parts a (new t x) is in
      record { log = a; holds = record { log = log; inc = sym of.inc; first = of.first; next = of.next }; thread = sym of.thread }

  held-log : (t : ℕ) (x : Block) (has : HasLog e m g t) → is_of has.log (new t x) ≡ true
  held-log t x has =
      let holds = has.holds in
      is_of-from has.log (new t x) (record { inc = sym holds.inc; thread = sym has.thread; first = holds.first; next = holds.next })

  -- a thread has a log there, or lacks it
  log-or-none : (t : ℕ) → HasLog e m g t ⊎ ¬ HasLog e m g t
  log-or-none t = elim (find_passing (λ a. is_of a (new t zero_block)) e.logs) [
    | inl found ↦ inl (log-held t zero_block found.0 found.1 found.2)
    | inr none ↦ inr (λ has. none has.log has.holds.log (held-log t zero_block has))
  ]

  -- it is enabled there and lacks one, or not
  lacks-or-not : (t : ℕ) → LacksLog w e m g t ⊎ (IsEnabled w m g t → HasLog e m g t)
  lacks-or-not t = elim (log-or-none t) [
    | inl has ↦ inr (λ is. has)
    | inr none ↦ elim (enabled-or-not w m g t) [
      | inl is ↦ inl (record { thread = is; no_log = none })
      | inr not ↦ inr (λ is. absurd (not is))
    ]
  ]

  -- each of the first n threads that is enabled there has a log, or one lacks it
  all-or-one : (n : ℕ) → ((t : ℕ) → t ≤ n → IsEnabled w m g t → HasLog e m g t) ⊎ ((t : ℕ) × LacksLog w e m g t)
  all-or-one zero = inl (λ t low is. let some = is.number.0 in absurd (omega (arith, some)))
  all-or-one (suc n) = elim (all-or-one n) [
    | inr one ↦ inr one
    | inl all ↦ elim (lacks-or-not (suc n)) [
      | inl lacks ↦ inr (suc n, lacks)
      | inr has ↦ inl (λ t low is. elim (cases_lt t (suc n)) [
        | inl less ↦ all t (omega arith) is
        | inr most ↦
            let last : suc n ≡ t = omega arith in
            subst (λ k. IsEnabled w m g k → HasLog e m g k) last has is
      ])
    ]
  ]

  someone : (t : ℕ) × LacksLog w e m g t
  someone = elim (all-or-one 4) [
    | inl all ↦
        let quiet : Quiet w e f b m g = by_logs (λ t is. all t is.number.1 is) none-listed in
        absurd (gap.unknown quiet)
    | inr one ↦ one
  ]

  -- a change by a thread that lacks the log is of no log
  of-none : (t : ℕ) (x : Block) → LacksLog w e m g t → (a : Log) → Contains e.logs a → is_of a (new t x) ≡ false
  of-none t x lacks a log = elim (cases_Bool (is_of a (new t x))) [
    | inr other ↦ other
    | inl is ↦ absurd (lacks.no_log (log-held t x a log is))
  ]

  module _ (world : IsWorld w) (target : IsTarget w i s f b) where
    abbrev created : ℕ
    created = target.datafile.creation

    file-parts : (created < s) × (owner w.tree i created ≡ target.datafile.inc)
    file-parts = exists-parts created s (owner w.tree i created) target.datafile.inc target.exists

    -- the file was created at or below the greatest version
    created-low : created ≤ v
    created-low =
        let seen : Seen w e f b (owner w.tree i created) created zero_block =
        subst (λ j. Seen w e f b j created zero_block) (sym file-parts.1) (by_creation target.datafile target.is) in
        gap.greatest.most created zero_block file-parts.0 seen

    created-below : created < g
    created-below = let above = gap.above in omega (arith, above, created-low)

    -- and the gap's incarnation began at or below the gap
    gap-begun : reset_of w.tree m ≤ g
    gap-begun = elim (owner-begun w.tree world.tree.parents i g) [
      | inl begun ↦ subst (λ j. reset_of w.tree j ≤ g) gap.owned begun
      | inr ones ↦
          let file : reset_of w.tree target.datafile.inc ≤ created = world.files f target.datafile target.is in
          let same : target.datafile.inc ≡ m = sym file-parts.1 ∙ ones created (omega (arith, created-below)) ∙ sym (ones g (omega arith)) ∙ gap.owned in
          let low : reset_of w.tree m ≤ created = subst (λ j. reset_of w.tree j ≤ created) same file in
          omega (arith, low, created-below)
    ]

    new-change : (t : ℕ) (x : Block) → IsEnabled w m g t → IsChange w (new t x)
    new-change t x thread = record {
      thread = thread;
      there = subst (IsThere w.tree) gap.owned (owner-there w.tree world.tree.parents i g target.there);
      begun = gap-begun;
      datafile = target.datafile;
      is = target.is;
      created = created-below;
      owned = ap (λ j. owner w.tree j created) (sym gap.owned) ∙ owner-owner w.tree world.tree.parents i g created (omega (arith, created-below)) ∙ file-parts.1;
      block = target.block;
    }

    module _ (h : List Change) (history : IsHistory w h) (agrees : Agrees w h e) where
      first : IsPossible w e i s f b (without w h i s f b v) v gap.greatest.content
      first = removed w h e history agrees i s f b v gap.greatest

      -- no change that is left has the new one's place
      alone : (t : ℕ) (x : Block) (d : Change) → Contains (without w h i s f b v) d → ¬ SamePlace d (new t x)
      alone t x d held same =
          let above = gap.above in
          let below = gap.below in
          let here = same.scn in
          let concerned : concerns w i s f b d ≡ true =
          concerns-from w i s f b d (record {
            file = same.file;
            block = same.block;
            below = omega (arith, here, below);
            owned = ap (owner w.tree i) here ∙ gap.owned ∙ sym same.inc;
          }) in
          let low : d.scn ≤ v = removed-top w h e history agrees i s f b v gap.greatest d held concerned in
          omega (arith, here, low, above)

      second : (t : ℕ) → LacksLog w e m g t → (x : Block) → IsPossible w e i s f b (changed w h i s f b v m g t x) g x
      second t lacks x =
          let less : List Change = without w h i s f b v in
          let above = gap.above in
          let longer : IsHistory w (less ++ new t x ∷ []) = IsHistory-push w less (new t x) first.history (new-change t x lacks.thread) (alone t x) in
          let concerned : concerns w i s f b (new t x) ≡ true =
          concerns-from w i s f b (new t x) (record { file = refl; block = refl; below = gap.below; owned = gap.owned }) in
          record {
            history = longer;
            agrees = unquiet-agrees w less e (new t x) longer first.agrees gap.unknown (of-none t x lacks);
            state_is = state-push_top w less (new t x) i s f b longer concerned (λ d held is.
                let low : d.scn ≤ v = removed-top w h e history agrees i s f b v gap.greatest d held is in
                omega (arith, low, above));
          }

      pub could-be : CouldBe w h e i s f b v m g gap.greatest.content
      could-be = record { first = first; second = second; someone = someone }
