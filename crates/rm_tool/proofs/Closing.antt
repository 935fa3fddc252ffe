-- All statements were served, and then the site was saved, or that was stopped.
use Rattle.std.proofs.Common.{◌≡◌, ◌∙◌, ◌⊎◌, ◌||◌, ℕ, List, [], Option, Bool, false, ap, subst, sym}
use Rattle.rm_base.specs.Store.{Held}
use Rattle.rm_catalog.specs.declared.record.Record.{Record}
use Rattle.rm_lang_token.specs.declared.token.Token.{Token}
use Rattle.rm_machine_laws.specs.{Holds.{View}, Saves.{IsEnded, Saves, StopsSaving}, Stopped.{IsLeft}}
use Rattle.rm_tool_opening.specs.{Saved.{EndsOut}, Untouched.{AreSame}}
use Rattle.rm_tool.{specs.{Comes.{AtHand}, Run.{Watch}, Serving.{FromEach, Shows, Closes, EndsMidway, at_saving}}, proofs.Quiet.{same-then}}

module _ {clock later : Watch} {before now : Option (List ℕ)} {held : Option Held} {kept : Option (List Record)} {v : View} {mid last : Option Held} {mid_kept last_kept : Option (List Record)} {v' : View} {refused : Bool} {ss : List (ℕ × List Token)}
    (fresh : v.applied ≡ false) (drill : Option ℕ) (s : Shows drill clock later before now held kept v mid mid_kept v' refused ss) where
  -- the site was saved
  pub closes : Saves mid mid_kept v' last last_kept → (v'.applied ≡ false → AreSame mid mid_kept last last_kept) → EndsOut v'.applied mid mid_kept v'.state last last_kept
      → Closes (FromEach held kept v) v.state drill clock later before now held kept last last_kept refused ss
  closes saves same ends =
      record {
        answers = s.answers;
        told = s.told;
        asked = s.asked;
        replies = s.replies;
        many = s.many;
        shown = v'.state;
        written = s.written;
        some = s.some;
        flags = s.flags;
        quiet = λ is. let was = s.quiet is in same-then was.0 (same (ap (λ (x : View). x.applied) was.1 ∙ fresh));
        comes =
            let was = s.comes in
            let knows : v'.applied ≡ was.0 = was.3.knows ∙ ap (λ b. b || was.0) fresh in
            let ended : EndsOut was.0 mid mid_kept v'.state last last_kept = subst (λ (b : Bool). EndsOut b mid mid_kept v'.state last last_kept) knows ends in
            (was.0, was.1, was.2, record { shows = ap (λ (b : AtHand). b.state) was.3.is; ends = subst (λ (b : AtHand). EndsOut was.0 b.held b.kept b.state last last_kept) (sym was.3.is) ended });
        run = λ m stands holds tells.
            let end = s.run m stands holds tells in
            let applied : v'.applied ≡ end.1 = end.3.2 ∙ ap (λ b. b || end.1) fresh in
            let left = saves end.0 end.3.0 end.3.1 in
            (end.0, end.1, end.2, (end.3.0, (left.0, subst (λ (b : Bool). IsEnded b end.0 left.0) applied left.1, left.2)));
      }

  -- it was stopped
  pub ends-at-saving : StopsSaving mid mid_kept v' last last_kept → (v'.applied ≡ false → AreSame mid mid_kept last last_kept) → EndsMidway (FromEach held kept v) v.state drill clock later before now held kept last last_kept ss
  ends-at-saving stops same =
      at_saving
      (record {
        answers = s.answers;
        told = s.told;
        asked = s.asked;
        replies = s.replies;
        many = s.many;
        shown = v'.state;
        written = s.written;
        quiet = λ is. let was = s.quiet is in same-then was.0 (same (ap (λ (x : View). x.applied) was.1 ∙ fresh));
        comes =
            let was = s.comes in
            let knows : v'.applied ≡ was.0 = was.3.knows ∙ ap (λ b. b || was.0) fresh in (
              was.0,
              was.1,
              was.2,
              record {
                shows = ap (λ (b : AtHand). b.state) was.3.is;
                same = λ none. subst (λ (b : AtHand). AreSame b.held b.kept last last_kept) (sym was.3.is) (same (knows ∙ none));
              },
            );
        run = λ m stands holds tells.
            let end = s.run m stands holds tells in
            let applied : v'.applied ≡ end.1 = end.3.2 ∙ ap (λ b. b || end.1) fresh in
            let left = stops end.0 end.3.0 end.3.1 in
            (end.0, end.1, end.2, (end.3.0, (left.0, subst (λ (b : Bool). IsLeft [] end.0 left.0 ⊎ IsEnded b end.0 left.0) applied left.1, left.2)));
      })
