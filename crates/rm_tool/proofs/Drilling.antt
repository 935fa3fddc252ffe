-- What a drill shows, of which no reply is kept.
use Rattle.std.{specs.List.{list_any}, proofs.Common.{◌≡◌, ◌≤◌, ◌∙◌, ℕ, Bool, List, Option, Some, None, ap, subst, sym, arith, length}}
use Rattle.rm_base.specs.{Outside.{Appends}, Store.{Held}}
use Rattle.rm_catalog.specs.declared.record.Record.{Record}
use Rattle.rm_lang_token.specs.declared.token.Token.{Token}
use Rattle.rm_machine_laws.{specs.Holds.{View}, proofs.Halting.{rests}}
use Rattle.rm_report.specs.declared.line.Reply.{Reply}
use Rattle.rm_tool_opening.specs.Shown.{next_scn, objects_in}
use Rattle.rm_tool.specs.{Drill.{IsTally, drill_line, summary_text}, Comes.{AtHand}, Run.{Watch}}
use Rattle.rm_tool.{specs.{Serving.{FromEach, EndsInLine, Serves, Shows}, declared.drill.Summary.{Summary}}, proofs.Tallies.{line-is}}
use Rattle.rm_tool_ends.specs.Writing.{WritesFront}

-- All statements were served, and this is what the line tells of them.
module _ {clock later : Watch} {held : Option Held} {kept : Option (List Record)} {v : View} {held' : Option Held} {kept' : Option (List Record)} {ss : List (ℕ × List Token)} {v' : View} (line : Summary) (s : Serves clock later None None held kept v held' kept' v' line.tally ss) (many : line.statements ≡ length ss) (most : length ss ≤ 18446744073709551615) (scn : line.next_scn ≡ next_scn v'.state) (objects : line.objects ≡ objects_in v'.state) where
  is_line : summary_text line ≡ drill_line line.number s.replies v'.state
  is_line = line-is line s.replies v'.state s.tally (many ∙ sym s.many) (omega (arith, s.many, most)) scn objects

  -- it was written
  pub drill-shows : (before now : Option (List ℕ)) (refused : Bool) → ((replies : List Reply) → IsTally line.tally replies → refused ≡ list_any (λ r. r.refused) replies) → Appends before now (summary_text line)
      → Shows (Some line.number) clock later before now held kept v held' kept' v' refused ss
  drill-shows before now refused some written =
      record {
        answers = s.answers;
        told = s.told;
        asked = s.asked;
        replies = s.replies;
        many = s.many;
        written = subst (Appends before now) is_line written;
        some = some s.replies s.tally;
        flags = s.flags;
        quiet = s.quiet;
        comes = s.comes;
        run = s.run;
      }

  -- or the sink failed in it
  pub ends-in-line : (before now : Option (List ℕ)) → WritesFront before now (summary_text line) → EndsInLine (FromEach held kept v) v.state line.number clock later before now held kept held' kept' ss
  ends-in-line before now written =
      let front = subst (WritesFront before now) is_line written in
      record {
        answers = s.answers;
        told = s.told;
        asked = s.asked;
        replies = s.replies;
        many = s.many;
        shown = v'.state;
        part = front.0;
        within = front.1;
        flags = s.flags;
        written = front.2;
        quiet = λ is. (s.quiet is).0;
        comes =
            let was = s.comes in
            (was.0, was.1, was.2, record { shows = ap (λ (b : AtHand). b.state) was.3.is; same = (ap (λ (b : AtHand). b.held) (sym was.3.is), ap (λ (b : AtHand). b.kept) (sym was.3.is)) });
        run = λ m stands holds tells.
            let end = s.run m stands holds tells in
            (end.0, end.1, end.2, (end.3.0, rests held' kept' end.0 end.3.1));
      }
