-- What is at hand, as what the statements come to.
use Rattle.std.proofs.Common.{◌≡◌, ◌∙◌, ◌++◌, inr, ℕ, List, [], ◌∷◌, Option, Some, Result, Ok, IfOk, ap, sym, subst, length, map}
use Rattle.rm_apply.specs.{Files.{AreExactly}, Preview.{Previews}, Recover.{TellsAll}, Restore.{Restores}, declared.origin.Origin.{Origin}}
use Rattle.rm_apply.specs.declared.recovering.Recovered.{Recovered}
use Rattle.rm_base.specs.{Store.{Held}, declared.{kinds.Bad.{Bad}, refusal.Refusal.{Refusal}}}
use Rattle.rm_plan.specs.{Plan.{IsFileTarget}, declared.plan.Gap.{Gap}}
use Rattle.rm_report.specs.declared.line.Line.{Line, TheVariants.{Recovered as recovered_line}}
use Rattle.rm_catalog_typed.specs.TypedCatalog.{records_of}
use Rattle.rm_lang_statement.specs.declared.command.{Command.TheVariants.{Preview, Recover, Restore}, Until.{Until}}
use Rattle.rm_machine.specs.{Effect.{done, no_effect, told}, Hands.{Hands, Tells}, Recover.{RecoversTo, recover_target, recovered}}
use Rattle.rm_machine.specs.{Recovery.{in_place, skipped_lines}, Restore.{PreviewsTo, RestoresTo, gap_line, origin_lines, restored}}
use Rattle.rm_machine.specs.{State.{current_of, world}, declared.{handed.Handed.{Handed}, state.State.{State}}}

-- what came back, under the names that a statement has for it
pub told-at : (held : Option Held) (s : State) (i j at : ℕ) (x : Result Recovered Refusal) (back : Recovered) → i ≡ j → x ≡ Ok back → IfOk x (λ b. TellsAll held (records_of s.catalog) (in_place s) i at b)
    → TellsAll held (records_of s.catalog) (in_place s) j at back
told-at held s i j at x back same is tells =
    subst (λ n. TellsAll held (records_of s.catalog) (in_place s) n at back) same (subst (λ y. IfOk y (λ b. TellsAll held (records_of s.catalog) (in_place s) i at b)) is tells)

-- the lines of a restore, likewise
pub restored-lines : (skipped : List (ℕ × Bad)) (fs : List ℕ) (seen origins : List Origin) (lines said : List Line) → seen ≡ origins → lines ≡ skipped_lines skipped ++ origin_lines fs seen → said ≡ lines
    → said ≡ skipped_lines skipped ++ origin_lines fs origins
restored-lines skipped fs seen origins lines said same is by = by ∙ is ∙ ap (λ (os : List Origin). skipped_lines skipped ++ origin_lines fs os) same

module _ (held : Option Held) (s : State) (until : Option Until) (at : ℕ) (target : recover_target s until ≡ Some at) where
  pub recover-hands : (back : Recovered) (x : Handed) (t : State) → TellsAll held (records_of s.catalog) (in_place s) (current_of s) at back
      → x.lines ≡ skipped_lines back.skipped ++ recovered_line at (current_of s) (length back.files) ∷ [] → x.objects ≡ [] → x.removes ≡ [] → t ≡ recovered s at back.files → Hands held s (Recover until) x t
  recover-hands back x t tells lines puts removes state =
      let said : List Line = skipped_lines back.skipped ++ recovered_line at (current_of s) (length back.files) ∷ [] in
      record {
        effect = no_effect;
        comes = λ objects is. subst (λ o. RecoversTo s objects o (done x.lines no_effect t)) (sym target)
            (inr (record {
              back = back;
              tells = subst (λ h. TellsAll h (records_of s.catalog) (in_place s) (current_of s) at back) is tells;
              is = ap (λ ls. done ls no_effect t) lines ∙ ap (done said no_effect) state;
            }));
        puts = puts;
        removes = removes;
      }

  pub restore-hands : (file : Option ℕ) (back : Recovered) (origins : List Origin) (x : Handed) (t : State) → Restores held (records_of s.catalog) (in_place s) (current_of s) at file back origins
      → x.lines ≡ skipped_lines back.skipped ++ origin_lines (map (λ y. y.file) back.files) origins → x.objects ≡ [] → x.removes ≡ [] → t ≡ restored s back.files → Hands held s (Restore file until) x t
  restore-hands file back origins x t restores lines puts removes state =
      let said : List Line = skipped_lines back.skipped ++ origin_lines (map (λ y. y.file) back.files) origins in
      record {
        effect = no_effect;
        comes = λ objects is. subst (λ o. RestoresTo s objects file o (done x.lines no_effect t)) (sym target) (record {
          back = back;
          origins = origins;
          restores = subst (λ h. Restores h (records_of s.catalog) (in_place s) (current_of s) at file back origins) is restores;
          is = ap (λ ls. done ls no_effect t) lines ∙ ap (done said no_effect) state;
        });
        puts = puts;
        removes = removes;
      }

  pub preview-tells : (numbers : List ℕ) (origins : List Origin) (gap : Option Gap) (skipped : List (ℕ × Bad)) (lines : List Line) → AreExactly (IsFileTarget (world s) (current_of s) at) numbers
      → Previews held (records_of s.catalog) (in_place s) (current_of s) at origins gap skipped → lines ≡ skipped_lines skipped ++ origin_lines numbers origins ++ gap_line gap ∷ [] → Tells held s (Preview until) lines
  preview-tells numbers origins gap skipped lines exact previews is_lines objects is = subst (λ o. PreviewsTo s objects o (told lines)) (sym target) (record {
    numbers = numbers;
    origins = origins;
    gap = gap;
    skipped = skipped;
    exact = exact;
    previews = subst (λ h. Previews h (records_of s.catalog) (in_place s) (current_of s) at origins gap skipped) is previews;
    is = ap told is_lines;
  })
