-- BACKUP INCREMENTAL FROM SCN leads on: its object comes to stand under a name that no record has, an id is drawn, and the current bitmaps
-- end. The increment holds what changed since its SCN.
use Rattle.std.specs.{Fmt.{decimal}, Prelude.{codes}}
use Rattle.std.proofs.{Common.{◌≡◌, ◌≢◌, ◌<◌, ◌^◌, ◌∙◌, inl, ℕ, List, [], Some, refl, sym, subst, arith}, lemmas.Fmt.{decimal_injective}}
use Rattle.std.proofs.lemmas.List.{append-nil, append_cancel_left, Elements.{All-cons, All-nil}}
use Rattle.rm_base.specs.{Store.{Held}, declared.block.Change.{Change}}
use Rattle.rm_commit.specs.declared.commit.Object.{Object}
use Rattle.rm_catalog_typed.specs.Ledger.{Ledger}
use Rattle.rm_evidence.{specs.Names.{roll_name}, proofs.Names.{log-no-roll, piece-no-roll, roll-no-site, set-no-roll}}
use Rattle.rm_lang_statement.specs.declared.command.Command.TheVariants.{BackupFrom}
use Rattle.rm_machine.specs.{BackupOutcome.{begun}, Effect.{Effect, LeavesObjects, Made}, Machine.{IsBorneOut}}
use Rattle.rm_machine.specs.Names.{IsObjectName, of_log, of_piece, of_set}
use Rattle.rm_machine.specs.{Roll.{after_roll, of_all, roll_effect, roll_object, with_next_id}, State.{ledger}}
use Rattle.rm_machine.{specs.declared.state.State.{State}, proofs.{Kept.{stand-where}, Later.{borne-with}}}
use Rattle.rm_machine.proofs.Rolling.{CanRoll, begun-all, can-roll, sound-rolled}
use Rattle.rm_machine_laws.specs.Loose.{IsLoose, IsNamedBy, IsOfId, StaysLoose, is_log, is_piece, is_roll, is_set, of_object, of_part}
use Rattle.rm_machine_laws.proofs.{Increments.{holds-since}, Leading.{LeadsOnBy, StaysBy}}
use Rattle.rm_machine_laws.proofs.{LooseNew.{AreNew, IsFree, IsNewName, above, new-loose}, LooseQuiet.{loose-done}, NewObjects.{put-beside}}
use Rattle.rm_machine_laws.proofs.{Quiet.{same-stays, unchanged}, Wanted.{tell-begun}}

-- no record has the name of an increment
roll-apart : (l : Ledger) (id : ℕ) (name : List ℕ) → IsObjectName l name → name ≢ roll_name id
roll-apart l id name (of_log e has) same = log-no-roll e.id id same
roll-apart l id name (of_piece e has) same = piece-no-roll e.copy e.id id same
roll-apart l id name (of_set e has) same = set-no-roll e.id id same

-- the names of two increments tell their ids
roll-name-tells : (a b : ℕ) → a < 2 ^ 64 → b < 2 ^ 64 → roll_name a ≡ roll_name b → a ≡ b
roll-name-tells a b small_a small_b same = decimal_injective a b small_a small_b (append_cancel_left (codes "roll_") (decimal a) (decimal b) same)

new-roll : (s : State) (id : ℕ) → IsFree s id → IsNewName s (roll_name id)
new-roll s id free = record { names = apart; low = λ name low. other low.0 name low.1 low.2; parts = λ part same. roll-no-site id part (sym same) }
  where
    other : (lower : ℕ) (name : List ℕ) → IsOfId lower name → lower < (ledger s).base.next_id → name ≢ roll_name id
    other lower _ is_log below same = log-no-roll lower id same
    other lower _ (is_piece copy) below same = piece-no-roll copy lower id same
    other lower _ is_set below same = set-no-roll lower id same
    other lower _ is_roll below same = let far = above s id lower free below in far.2 (roll-name-tells lower id far.0 far.1 same)

    apart : (name : List ℕ) → IsNamedBy s name → name ≢ roll_name id
    apart _ (of_object name names) same = roll-apart (ledger s) id name names same
    apart _ (of_part p has) same = roll-no-site id p.id (sym same)

module _ (s : State) (from : ℕ) (can : CanRoll s from) (h : List Change) (objects : Held) (made : List Made) (touched : List (List ℕ)) (stands : IsBorneOut s h objects made touched) where
  borne-begun : IsBorneOut (begun s of_all) h objects made touched
  borne-begun =
      let keeps = stands.keeps in
      record {
        state = begun-all s stands.state;
        keeps = record {
          history = keeps.history;
          below = keeps.below;
          online = keeps.online;
          place = keeps.place;
          tracker = tell-begun s of_all h stands.state keeps;
          in_open = keeps.in_open;
          point = keeps.point;
        };
        artefacts = stands.artefacts;
        records = record { logs = stands.records.logs; pieces = stands.records.pieces; sets = stands.records.sets };
      }

  borne-rolled : (after : Held) → LeavesObjects (roll_effect s from) objects after → IsBorneOut (after_roll s) h after made touched
  borne-rolled after left =
      let q = after_roll s in
      let ids = can.ids in
      borne-with (begun s of_all) (with_next_id s.catalog) (sound-rolled s stands.state (omega (arith, ids))).catalog h objects after made touched touched borne-begun
      (stand-where objects after touched (ledger s) (ledger q) (λ n names. left.removes n ∙ left.puts n ∙ put-beside objects (roll_object s from) n (roll-apart (ledger q) (ledger s).base.next_id n names)))
      (λ e has. inl has) (λ p has. inl has) (λ e has. inl has)

pub roll-on : (from : ℕ) → LeadsOnBy (BackupFrom from)
roll-on from s h objects made touched said e t after well stands tell none does effect =
    let can = can-roll s from none in (
      unchanged (after_roll s) (roll_effect s from) h objects made touched e t after refl (cc) (cc) effect (λ left.
          subst (λ k. IsBorneOut (after_roll s) h after k touched) (sym (append-nil made)) (borne-rolled s from can h objects made touched stands after left)),
      holds-since s h from stands.state stands.keeps can,
    )

pub roll-stays : (from : ℕ) → StaysBy (BackupFrom from)
roll-stays from s objects said e t well sound unsaved none does =
    let ids = (can-roll s from none).ids in
    same-stays (after_roll s) t (cc) (sound-rolled s sound (omega (arith, ids))) unsaved

pub roll-loose : (from : ℕ) → StaysLoose (BackupFrom from)
roll-loose from = loose-done (BackupFrom from) (λ s held lines e t sound none does.
    let by : Effect = roll_effect s from in
    let is : by ≡ e = cc in
    let ids = (can-roll s from none).ids in
    let free : IsFree s (ledger s).base.next_id = record { next = omega arith; most = omega (arith, ids) } in
    let new : AreNew s by.puts = All-cons (λ (x : Object). IsNewName s x.name) (roll_object s from) [] (new-roll s (ledger s).base.next_id free) (All-nil (λ (x : Object). IsNewName s x.name)) in
    subst (λ x. IsLoose (Some s) (BackupFrom from) x t) is (new-loose s (BackupFrom from) by t refl new))
