-- Along the events of a BACKUP the database stays sound and fits its history, and what was read stays true.
use Rattle.std.proofs.Common.{◌≡◌, ◌≤◌, ◌<◌, ◌++◌, inl, inr, ℕ, List, [], ◌∷◌, false, refl, sym, subst, arith, append_assoc, map, Contains}
use Rattle.std.proofs.lemmas.List.{append-nil}
use Rattle.rm_base.{specs.{Store.{Held}, declared.block.{Change.{Change}, Row.{Row}}}, proofs.Members.{first-or-rest, none-in}}
use Rattle.rm_channel.specs.Made.{deed}
use Rattle.rm_history.specs.{Agrees.{IsBelow, IsRow}, State.{state}}
use Rattle.rm_live.specs.{History.{IsLegal, IsRight}, declared.history.{Answer.{Answer}, Call.{Call}, Event.{Event}}}
use Rattle.rm_lang_statement.specs.declared.command.WriteForm.{WriteForm}
use Rattle.rm_machine.specs.{Damage.{has_block}, Effect.{Made}, Machine.{HistoryFits, IsBorneOut}, State.{current_of, now_of, world}}
use Rattle.rm_machine.specs.{Events.{after_event, after_events, change_by, changes_of, opening}, declared.state.State.{State}}
use Rattle.rm_machine.proofs.Found.{read-of}
use Rattle.rm_machine.proofs.Walk.{AreAsked, CanGoOn, IsAsked, accepted, by-event, event-on, found-here, full, legal-on, now-event, reading}
use Rattle.rm_machine_laws.proofs.{Writing.{borne-write}, Found.{read-true, row-write}}

-- One event

module _ (u : State) (ws : List WriteForm) (can : CanGoOn u ws) where
  borne-event : (c : Call) (answer : Answer) → IsRight (opening u) c answer → IsAsked ws c answer → (h : List Change) (objects : Held) (made : List Made) (touched : List (List ℕ))
      → IsBorneOut u h objects made touched → IsBorneOut (after_event u c answer) (h ++ change_by u c answer) objects made touched
  borne-event c answer right asked h objects made touched stands = by-event (λ q cs. IsBorneOut q (h ++ cs) objects made touched) u ws (subst (λ k. IsBorneOut u k objects made touched) (sym (append-nil h)) stands)
      (λ w has scn is. borne-write u w h objects made touched (accepted u ws can w has scn is) (full u ws can w has scn is) stands) c answer right asked

  row-event : (c : Call) (answer : Answer) → IsRight (opening u) c answer → IsAsked ws c answer → (h : List Change) → HistoryFits u h → (f checkpoint : ℕ) (r : Row) → checkpoint ≤ now_of u
      → IsRow (world u) h (current_of u) f checkpoint r → IsRow (world (after_event u c answer)) (h ++ change_by u c answer) (current_of (after_event u c answer)) f checkpoint r
  row-event c answer right asked h keeps f checkpoint r most is = by-event (λ q cs. IsRow (world q) (h ++ cs) (current_of q) f checkpoint r) u ws (subst (λ k. IsRow (world u) k (current_of u) f checkpoint r) (sym (append-nil h)) is)
      (λ w has scn one. row-write u w h can.sound keeps (accepted u ws can w has scn one) f checkpoint r most is) c answer right asked

-- All events

-- a row that is true goes on to be
row-events : (ws : List WriteForm) (es : List Event) (u : State) (h : List Change) (objects : Held) (made : List Made) (touched : List (List ℕ)) → CanGoOn u ws → IsBorneOut u h objects made touched → IsLegal (opening u) es → AreAsked ws es
    → (f checkpoint : ℕ) (r : Row) → checkpoint ≤ now_of u → IsRow (world u) h (current_of u) f checkpoint r → IsRow (world (after_events u es)) (h ++ changes_of u es) (current_of (after_events u es)) f checkpoint r
row-events ws [] u h objects made touched can stands legal asked f checkpoint r most is = subst (λ k. IsRow (world u) k (current_of u) f checkpoint r) (sym (append-nil h)) is
row-events ws (e ∷ es) u h objects made touched can stands legal asked f checkpoint r most is =
    let q : State = after_event u e.call e.answer in
    let on = event-on u ws can e.call e.answer legal.0 asked.0 in
    let first = now-event u ws can e.call e.answer legal.0 asked.0 in
    let one = row-event u ws can e.call e.answer legal.0 asked.0 h stands.keeps f checkpoint r most is in
    subst (λ k. IsRow (world (after_events q es)) k (current_of (after_events q es)) f checkpoint r) (append_assoc h (change_by u e.call e.answer) (changes_of q es))
    (row-events ws es q (h ++ change_by u e.call e.answer) objects made touched on (borne-event u ws can e.call e.answer legal.0 asked.0 h objects made touched stands) (legal-on u ws can e es legal) asked.1 f checkpoint r (omega (arith, most, first)) one)

pub borne-events : (ws : List WriteForm) (es : List Event) (u : State) (h : List Change) (objects : Held) (made : List Made) (touched : List (List ℕ)) → CanGoOn u ws → IsBorneOut u h objects made touched → IsLegal (opening u) es → AreAsked ws es
    → IsBorneOut (after_events u es) (h ++ changes_of u es) objects made touched
borne-events ws [] u h objects made touched can stands legal asked = subst (λ k. IsBorneOut u k objects made touched) (sym (append-nil h)) stands
borne-events ws (e ∷ es) u h objects made touched can stands legal asked =
    let q : State = after_event u e.call e.answer in
    subst (λ k. IsBorneOut (after_events q es) k objects made touched) (append_assoc h (change_by u e.call e.answer) (changes_of q es))
    (borne-events ws es q (h ++ change_by u e.call e.answer) objects made touched (event-on u ws can e.call e.answer legal.0 asked.0) (borne-event u ws can e.call e.answer legal.0 asked.0 h objects made touched stands) (legal-on u ws can e es legal) asked.1)

-- and a block that was below an SCN at a checkpoint was so
pub below-events : (ws : List WriteForm) (es : List Event) (u : State) (h : List Change) (objects : Held) (made : List Made) (touched : List (List ℕ)) → CanGoOn u ws → IsBorneOut u h objects made touched → IsLegal (opening u) es → AreAsked ws es
    → (f b checkpoint from : ℕ) → checkpoint ≤ now_of u → IsBelow (world u) h (current_of u) f checkpoint from b → IsBelow (world (after_events u es)) (h ++ changes_of u es) (current_of (after_events u es)) f checkpoint from b
below-events ws es u h objects made touched can stands legal asked f b checkpoint from most low =
    let r = state (world u) h (current_of u) low.position f b in
    let is = row-events ws es u h objects made touched can stands legal asked f checkpoint r most (record { position = low.position; after = low.after; is = refl }) in
    record { position = is.position; after = is.after; below = subst (λ (x : Row). x.version < from) (sym is.is) low.below }

-- each row that a read found of a block that is not damaged is true at the end
pub true-events : (ws : List WriteForm) (es : List Event) (u : State) (h : List Change) (objects : Held) (made : List Made) (touched : List (List ℕ)) → CanGoOn u ws → IsBorneOut u h objects made touched → IsLegal (opening u) es → AreAsked ws es
    → (f b checkpoint : ℕ) (r : Row) → has_block u.instance.damaged f b ≡ false → checkpoint ≤ now_of u → Contains (map deed es) (reading f b r) → IsRow (world (after_events u es)) (h ++ changes_of u es) (current_of (after_events u es)) f checkpoint r
true-events ws [] u h objects made touched can stands legal asked f b checkpoint r clear most has = absurd (none-in (reading f b r) has)
true-events ws (e ∷ es) u h objects made touched can stands legal asked f b checkpoint r clear most has = elim (first-or-rest (deed e) (map deed es) (reading f b r) has) [
  | inl same ↦
      let at = read-of u f b r can.sound (found-here u e f b r legal.0 same) in
      row-events ws (e ∷ es) u h objects made touched can stands legal asked f checkpoint r most (read-true u f b r can.sound can.opened at h checkpoint stands.keeps clear most)
  | inr later ↦
      let q : State = after_event u e.call e.answer in
      let first = now-event u ws can e.call e.answer legal.0 asked.0 in
      subst (λ k. IsRow (world (after_events q es)) k (current_of (after_events q es)) f checkpoint r) (append_assoc h (change_by u e.call e.answer) (changes_of q es))
      (true-events ws es q (h ++ change_by u e.call e.answer) objects made touched (event-on u ws can e.call e.answer legal.0 asked.0) (borne-event u ws can e.call e.answer legal.0 asked.0 h objects made touched stands) (legal-on u ws can e es legal) asked.1 f b checkpoint r
      (by-event (λ q cs. has_block q.instance.damaged f b ≡ false) u ws clear (λ w has scn is. clear) e.call e.answer legal.0 asked.0) (omega (arith, most, first)) later)
]
