-- How a statement comes out.
use Rattle.std.{specs.Option.{option_map}, proofs.Common.{◌≡◌, ◌∙◌, ℕ, true, List, Option, Some, refl, ap, sym, subst}}
use Rattle.rm_base.{specs.{Store.{Held}, declared.refusal.Refusal.{Refusal}}, proofs.Both.{both-told}}
use Rattle.rm_catalog.specs.{Edits.{after_edits}, declared.record.Record.{Record}}
use Rattle.rm_commit.specs.{Carrying.{AreMoved, Carried}, Names.{HasPuts, HasRemoves}, declared.commit.Commit.{Commit}}
use Rattle.rm_lang_statement.specs.declared.command.Command.{Command}
use Rattle.rm_machine.specs.{Effect.{done, refused, told}, Nature.{by_state, nature_of}, declared.state.State.{State}}
use Rattle.rm_machine_laws.specs.{Carries.{IsHanded, IsOutcomeIn}, Holds.{View, records_in}, Moments.{moment_of}}
use Rattle.rm_machine_laws.proofs.Carried.{same-puts}
use Rattle.rm_report.specs.{Reply.{refused_by, said}, declared.line.{Line.{Line}, Reply.{Reply}}}
use Rattle.rm_site.specs.ComesOut.{ComesOut}

module _ (held : Option Held) (kept : Option (List Record)) (o : Option State) (c : Command) (moment : ℕ) where
  -- the records stay
  same-records : (p : Option State) → p ≡ o → kept ≡ Some (records_in o) → kept ≡ Some (records_in p)
  same-records p same tells = tells ∙ ap Some (sym (ap (λ (x : Option State). records_in x) same))

  -- a statement of the state alone has an outcome by any objects
  abbrev ByState : (Held → Type 0) → Type 0
  ByState Is = by_state (nature_of c) ≡ true → (objects : Held) → Is objects

  pub out-refused : (p : Option State) (r : Refusal) (reply : Reply) (held' : Option Held) → p ≡ o → held' ≡ held → reply ≡ refused_by r
      → ((objects : Held) → held ≡ Some objects → IsOutcomeIn o objects c moment (refused r)) → ByState (λ objects. IsOutcomeIn o objects c moment (refused r))
      → ComesOut held kept o c moment reply held' kept p
  out-refused p r reply held' same stays said_is comes alone = record {
    store = λ objects tells. record { by = record { outcome = refused r; is = comes objects tells; gives = (said_is, same) }; objects_are = objects; holds = stays ∙ tells; leaves = refl };
    state = λ is objects. record { outcome = refused r; is = alone is objects; gives = (said_is, same) };
    keeper = same-records p same;
  }

  pub out-told : (p : Option State) (lines : List Line) (reply : Reply) (held' : Option Held) → p ≡ o → held' ≡ held → reply ≡ said lines
      → ((objects : Held) → held ≡ Some objects → IsOutcomeIn o objects c moment (told lines)) → ByState (λ objects. IsOutcomeIn o objects c moment (told lines))
      → ComesOut held kept o c moment reply held' kept p
  out-told p lines reply held' same stays said_is comes alone = record {
    store = λ objects tells. record { by = record { outcome = told lines; is = comes objects tells; gives = (said_is, same) }; objects_are = objects; holds = stays ∙ tells; leaves = refl };
    state = λ is objects. record { outcome = told lines; is = alone is objects; gives = (said_is, same) };
    keeper = same-records p same;
  }

  pub out-done : (before : Option Held) (lines : List Line) (x : Commit) (t : State) (reply : Reply) (held' : Option Held) (kept' : Option (List Record)) → before ≡ held → reply ≡ said lines
      → IsHanded held o c moment lines x t → ByState (λ objects. IsHanded (Some objects) o c moment lines x t) → Carried x before kept held' kept' → ComesOut held kept o c moment reply held' kept' (Some t)
  out-done before lines x t reply held' kept' stays said_is handed alone carried = record {
    store = λ objects tells.
        let w = both-told (AreMoved x) before held' objects (stays ∙ tells) carried.objects in
        record {
          by = record { outcome = done lines handed.effect t; is = handed.comes objects tells; gives = (said_is, refl) };
          objects_are = w.0;
          holds = w.2;
          leaves = record {
            put = w.1.put;
            puts = subst (λ y. HasPuts y objects w.1.put) (handed.puts ∙ sym (same-puts o handed.effect)) w.1.puts;
            removes = subst (λ y. HasRemoves y w.1.put w.0) handed.removes w.1.removes;
          };
        };
    state = λ is objects.
        let by = alone is objects in
        record { outcome = done lines by.effect t; is = by.comes objects refl; gives = (said_is, refl) };
    keeper = λ tells. carried.records ∙ ap (option_map (after_edits x.edits)) tells ∙ ap Some handed.edits;
  }

-- and over the site
pub out-of : (o : Option State) (v : View) (c : Command) (clock moment : ℕ) (held held' : Option Held) (kept kept' : Option (List Record)) (reply : Reply) (p : Option State)
    → o ≡ v.state → moment ≡ moment_of o clock → ComesOut held kept o c moment reply held' kept' p → ComesOut held kept v.state c (moment_of v.state clock) reply held' kept' p
out-of o v c clock moment held held' kept kept' reply p from is out =
    let at : moment ≡ moment_of v.state clock = is ∙ ap (λ (x : Option State). moment_of x clock) from in
    coe 0 1 (i. ComesOut held kept (from i) c (at i) reply held' kept' p) out
