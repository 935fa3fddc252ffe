-- What is needed, as the code tests it, says whether a backup is needless, and a log obsolete.
use Rattle.std.specs.List.{list_any}
use Rattle.std.proofs.Common.{◌≡◌, ◌≢◌, ◌≤◌, ◌∙◌, ◌↔◌, ◌==◌, ◌&&◌, ◌||◌, inl, inr, nat_lt, min, not, ℕ, List, Bool, true, false, IsTrue, refl, ap, sym, subst, arith, map, get_or, All, Contains}
use Rattle.std.proofs.lemmas.Bool.{and_parts, cases_lt, eq-eqb, eqb-true, ltb-false, ltb-true, or_cases, or_parts}
use Rattle.std.proofs.lemmas.List.Elements.{All-contains, All-map, Contains-get_or}
use Rattle.rm_base.{specs.declared.kinds.Policy.TheVariants.{Nothing}, proofs.Lists.{any_from, any_none, map_to}}
use Rattle.rm_catalog.specs.{Keys.{part_piece}, Trees.{nodes}, declared.record.{Record.{Record}, SetEntry.{SetEntry}, SetPart.{SetPart}}}
use Rattle.rm_history.specs.{Tree.{IsShared}, declared.tree.Incarnation.{Incarnation}}
use Rattle.rm_retain.specs.{Catalogued.{backup_in, backups_of}, Chosen.{Retention, IsChosen, chosen, floor}}
use Rattle.rm_retain.specs.Obsolete.{IsClip, of_current, of_other, ClipsTo, IsOnPath, IsNeedlessBackup, IsObsoleteLog, IsObsoleteSet}
use Rattle.rm_retain.specs.{Needs.{needed_by, needs_backup, needs_clip, AreNeeds}, declared.copies.Backup.{Backup}}
use Rattle.rm_retain.specs.declared.{file_need.FileNeed.{FileNeed}, needs.Needs.{Needs}}

shared_least : (tree : List Incarnation) (i j s t : ℕ) → IsShared tree i j s → IsShared tree i j t → t ≤ s
shared_least tree i j s t first second = elim (cases_lt s t) [
  | inr most ↦ most
  | inl less ↦
      let last = second.last in
      absurd (first.apart (omega (arith, less, last)) (second.alike s first.first less))
]

-- two paths part at one SCN
pub shared_one : (tree : List Incarnation) (i j s t : ℕ) → IsShared tree i j s → IsShared tree i j t → s ≡ t
shared_one tree i j s t first second =
    let up = shared_least tree i j s t first second in
    let down = shared_least tree i j t s second first in
    omega (arith, up, down)

-- so there is one clip
pub clip_one : (tree : List Incarnation) (current inc high c d : ℕ) → IsClip tree current inc high c → IsClip tree current inc high d → c ≡ d
clip_one tree current inc high _ _ (of_current a) (of_current b) = refl
clip_one tree current inc high _ _ (of_current a) (of_other s differ shared) = absurd (differ a)
clip_one tree current inc high _ _ (of_other s differ shared) (of_current a) = absurd (differ a)
clip_one tree current inc high _ _ (of_other s differ shared) (of_other t other second) = ap (min high) (shared_one tree inc current s t shared second)

and_rest : (a b : Bool) → (a && b) ≡ false → a ≡ true → b ≡ false
and_rest a b h first = grind arith

module _ (rs : List Record) (x : Needs) (is : AreNeeds rs x) where
  -- what clips to a floor has its clip there
  clip_at : (inc high c n : ℕ) → IsClip (nodes rs) x.current inc high c → ClipsTo (needed_by rs x) inc high n → c ≤ n
  clip_at inc high c n clip clips =
      let one = clip_one (nodes rs) x.current inc high c clips.clip clip (subst (λ k. IsClip (nodes rs) k inc high clips.clip) (sym is.current) clips.is) in
      let most = clips.most in
      omega (arith, one, most)

  clip_to : (inc high c n : ℕ) → IsClip (nodes rs) x.current inc high c → c ≤ n → ClipsTo (needed_by rs x) inc high n
  clip_to inc high c n clip most = record { clip = c; is = subst (λ k. IsClip (nodes rs) k inc high c) is.current clip; most = most }

  pub log_is : (inc next c : ℕ) (keep t : Bool) → IsClip (nodes rs) x.current inc next c → (x.policy ≢ Nothing) × (keep ≡ false) → list_any (needs_clip c) x.files.items ≡ t → IsTrue (not t) ↔ IsObsoleteLog (needed_by rs x) inc next keep
  log_is inc next c keep true clip may some = (
    λ no. absurd (cc),
    λ obsolete.
        let y = any_from (needs_clip c) x.files.items some in
        let need = is.sound y.0 y.1 in
        let above = ltb-true y.0.floor c y.2 in
        let low = clip_at inc next c (floor (needed_by rs x) y.0.file) clip (obsolete.needless y.0.file need.0) in
        let at = need.1.floor in
        absurd (omega (arith, above, low, at)),
  )
  log_is inc next c keep false clip may none = (
    λ yes. record {
      policy = may.0;
      not_kept = may.1;
      needless = λ f path.
          let y = is.complete f path in
          let at = (is.sound y.0 y.1).1.floor in
          let low = ltb-false y.0.floor c (any_none (needs_clip c) x.files.items none y.0 y.1) in
          subst (λ n. ClipsTo (needed_by rs x) inc next (floor (needed_by rs x) n)) y.2 (clip_to inc next c (floor (needed_by rs x) y.0.file) clip (omega (arith, at, low)));
    },
    λ obsolete. refl,
  )

  pub needless_is : (b : Backup) (c : ℕ) (t : Bool) → IsClip (nodes rs) x.current b.inc b.high c → list_any (needs_backup b.file b.id c) x.files.items ≡ t → IsTrue (not t) ↔ IsNeedlessBackup (needed_by rs x) b
  needless_is b c true clip some = (
    λ no. absurd (cc),
    λ needless.
        let r = needed_by rs x in
        let y = any_from (needs_backup b.file b.id c) x.files.items some in
        let need = is.sound y.0 y.1 in
        let parts = and_parts (y.0.file == b.file) (nat_lt y.0.floor c || list_any (λ k. k == b.id) y.0.chosen.items) y.2 in
        let file = eqb-true y.0.file b.file parts.0 in
        let path = subst (IsOnPath r) file need.0 in
        elim (or_cases (nat_lt y.0.floor c) (list_any (λ k. k == b.id) y.0.chosen.items) parts.1) [
          | inl over ↦
              let above = ltb-true y.0.floor c over in
              let low = clip_at b.inc b.high c (floor r b.file) clip (needless.low path) in
              let at : y.0.floor ≡ floor r b.file = need.1.floor ∙ ap (floor r) file in
              absurd (omega (arith, above, low, at))
          | inr named ↦
              let k = any_from (λ k. k == b.id) y.0.chosen.items named in
              let here : Contains y.0.chosen.items b.id = subst (Contains y.0.chosen.items) (eqb-true k.0 b.id k.2) k.1 in
              let at : Contains (map (λ (z : Backup). z.id) (chosen r y.0.file)) b.id = subst (λ ids. Contains ids b.id) need.1.chosen here in
              absurd (needless.not_chosen path (subst (λ f. IsChosen r f b.id) file at))
        ],
  )
  needless_is b c false clip none = (
    λ yes. record {
      low = λ path.
          let y = is.complete b.file path in
          let at : y.0.floor ≡ floor (needed_by rs x) b.file = (is.sound y.0 y.1).1.floor ∙ ap (floor (needed_by rs x)) y.2 in
          let low = ltb-false y.0.floor c (fails y.0 y.1 y.2).0 in
          clip_to b.inc b.high c (floor (needed_by rs x) b.file) clip (omega (arith, at, low));
      not_chosen = λ path held.
          let y = is.complete b.file path in
          let named : Contains y.0.chosen.items b.id = subst (λ ids. Contains ids b.id) (sym ((is.sound y.0 y.1).1.chosen ∙ ap (λ f. map (λ (z : Backup). z.id) (chosen (needed_by rs x) f)) y.2)) held in
          let off : (b.id == b.id) ≡ false = any_none (λ k. k == b.id) y.0.chosen.items (fails y.0 y.1 y.2).1 b.id named in
          let both : true ≡ false = sym (eq-eqb b.id b.id refl) ∙ off in
          absurd (cc);
    },
    λ needless. refl,
  )
    where
      fails : (y : FileNeed) → Contains x.files.items y → y.file ≡ b.file → (nat_lt y.floor c ≡ false) × (list_any (λ k. k == b.id) y.chosen.items ≡ false)
      fails y held file =
          or_parts (nat_lt y.floor c) (list_any (λ k. k == b.id) y.chosen.items)
          (and_rest (y.file == b.file) (nat_lt y.floor c || list_any (λ k. k == b.id) y.chosen.items) (any_none (needs_backup b.file b.id c) x.files.items none y held) (eq-eqb y.file b.file file))

-- a set is obsolete where all its parts are needless
pub set_is : (r : Retention) (e : SetEntry) (t : Bool) → (r.policy ≢ Nothing) × (e.keep ≡ false) → IsTrue t ↔ All (λ p. IsNeedlessBackup r (backup_in (part_piece e p))) e.parts → IsTrue t ↔ IsObsoleteSet r (backups_of e) e.keep
set_is r e t may all =
    let of : SetPart → Backup = λ p. backup_in (part_piece e p) in (
      λ yes. record { policy = may.0; not_kept = may.1; needless = All-map (IsNeedlessBackup r) of e.parts (all.0 yes) },
      λ obsolete. all.1 (λ k d inside. All-contains (IsNeedlessBackup r) (backups_of e) (of (get_or e.parts k d)) obsolete.needless (map_to of e.parts (get_or e.parts k d) (Contains-get_or e.parts k d inside))),
    )
