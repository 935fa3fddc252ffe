-- What RECOVER COPY hands out, and what refuses it by what is at hand.
use Rattle.std.specs.{Prelude.{IfSome}, Option.{option_map_or}}
use Rattle.std.proofs.Common.{◌≡◌, ◌∙◌, ◌++◌, ℕ, List, [], ◌∷◌, Option, Some, None, ap, sym, subst, filter, map, All}
use Rattle.std.proofs.lemmas.{List.Elements.{All-append, All-cons, All-nil}, Option.{same_Some}}
use Rattle.rm_base.specs.{Store.{Held}, declared.{kinds.Bad.{Bad}, refusal.Refusal.{Refusal}}}
use Rattle.rm_backup.specs.declared.renewing.Renewed.{Renewed}
use Rattle.rm_evidence.specs.declared.evidence.Evidence.{Evidence}
use Rattle.rm_piece.specs.declared.piece.Piece.{Piece}
use Rattle.rm_report.specs.{Reply.{IsPlain}, declared.line.Line.{Line, TheVariants.{Merged, StartsAbove, Stays}}}
use Rattle.rm_lang_statement.specs.declared.command.{Command.TheVariants.{RecoverCopy}, Until.{Until, TheVariants.{Scn, Sequence, Time}}}
use Rattle.rm_machine.specs.{Effect.{Outcome, refused}, Hands.{Hands, Refuses}, Recover.{recover_target}}
use Rattle.rm_machine.specs.RecoverCopy.{AreRenewed, RenewsTo, after_copies, after_copy, copies_gone, copies_lines, copies_put, renewed_line, renewed_lines, renewed_refusal, renewing, renews}
use Rattle.rm_machine.specs.{Recovery.{IsAtHand, skipped_lines}, Sound.{IsSound}, Step.{IsDone}}
use Rattle.rm_machine.specs.{Until.{nowhere_refusal, or_else, refusal_at, target_of, thread_refusal, until_refusal}, State.{ledger}}
use Rattle.rm_machine.{specs.declared.{handed.Handed.{Handed}, state.State.{State}}, proofs.{Handing.{hands-by}, Untils.{second-none}}}
use Rattle.rm_step_copies.{specs.Skipped.{is_of_copies}, proofs.Skipped.{skipped-of}}

-- an UNTIL that leads nowhere is refused
nowhere-by : (s : State) (i : ℕ) (until : Option Until) → target_of s i until ≡ None → ¬ (nowhere_refusal s until ≡ None)
nowhere-by s i None none other = absurd (cc)
nowhere-by s i (Some (Scn at)) none other = absurd (cc)
nowhere-by s i (Some (Sequence n t)) none other = absurd (cc)
nowhere-by s i (Some (Time text)) none other = absurd (cc)

pub leads-on : (s : State) (i : ℕ) (until : Option Until) (by_target : ℕ → Option Refusal) (otherwise : Option Refusal) → until_refusal s i until by_target otherwise ≡ None → ¬ (target_of s i until ≡ None)
leads-on s i until by_target otherwise accepted none =
    let by : refusal_at s i until by_target otherwise ≡ None = second-none (thread_refusal s until) (refusal_at s i until by_target otherwise) accepted in
    nowhere-by s i until none (second-none otherwise (nowhere_refusal s until) (sym (ap (λ o. option_map_or by_target o (or_else otherwise (nowhere_refusal s until))) none) ∙ by))

-- no line of it tells a moment
line-dated : (s : State) (x : ℕ × Renewed) (o : Option Piece) → IsPlain (option_map_or (λ last. Merged (ledger s).base.next_id x.0 x.1.checkpoint) o (Stays x.1.id x.0 x.1.checkpoint))
line-dated s x None = tt
line-dated s x (Some last) = tt

above-dated : (checkpoint : ℕ) (above : List (ℕ × ℕ)) → All IsPlain (map (λ y. StartsAbove y.0 y.1 checkpoint) above)
above-dated checkpoint [] = All-nil IsPlain
above-dated checkpoint (y ∷ ys) = All-cons IsPlain (StartsAbove y.0 y.1 checkpoint) (map (λ z. StartsAbove z.0 z.1 checkpoint) ys) tt (above-dated checkpoint ys)

copies-dated : (s : State) (tag : List ℕ) (xs : List (ℕ × Renewed)) → All IsPlain (copies_lines s tag xs)
copies-dated s tag [] = All-nil IsPlain
copies-dated s tag (x ∷ xs) =
    All-append IsPlain (renewed_lines s x) (copies_lines (after_copy s tag x) tag xs)
    (All-cons IsPlain (renewed_line s x) (map (λ y. StartsAbove y.0 y.1 x.1.checkpoint) x.1.above) (line-dated s x x.1.merged) (above-dated x.1.checkpoint x.1.above))
    (copies-dated (after_copy s tag x) tag xs)

pub all-dated : (s : State) (tag : List ℕ) (xs : List (ℕ × Renewed)) (first lines : List Line) → All IsPlain first → lines ≡ first ++ copies_lines s tag xs → All IsPlain lines
all-dated s tag xs first lines dated is = subst (All IsPlain) (sym is) (All-append IsPlain first (copies_lines s tag xs) dated (copies-dated s tag xs))

-- By what is at hand
module _ (held : Option Held) (s : State) (tag : List ℕ) (until : Option Until) (at : ℕ) (e : Evidence) (xs : List (ℕ × Renewed)) (sound : IsSound s) (target : recover_target s until ≡ Some at)
    (hand : IfSome held (λ h. IsAtHand s h e)) (are : AreRenewed s e tag at xs) where
  at-hand : (o : Option Held) → IfSome o (λ h. IsAtHand s h e) → (objects : Held) → o ≡ Some objects → IsAtHand s objects e
  at-hand None is objects tells = absurd cc
  at-hand (Some h) is objects tells = subst (λ (k : Held). IsAtHand s k e) (same_Some h objects tells) is

  abbrev skipped : List (ℕ × Bad)
  skipped = filter (λ x. is_of_copies s tag x.0) e.skipped

  abbrev comes_by : Option Refusal → Outcome
  comes_by o = option_map_or refused o (renews s tag skipped xs)

  comes : (o : Option Refusal) → renewed_refusal s xs ≡ o → (objects : Held) → held ≡ Some objects → IsDone s objects (RecoverCopy tag until) (comes_by o)
  comes o is objects tells =
      let there = at-hand held hand objects tells in
      subst (λ t. RenewsTo s objects tag t (comes_by o)) (sym target) (record {
        evidence = e;
        at_hand = there;
        skipped = skipped;
        misses = skipped-of s tag objects sound e.skipped there.skipped;
        copies = xs;
        are = are;
        is = sym (ap comes_by is);
      })

  pub renew-hands : (x : Handed) (t : State) → renewed_refusal s xs ≡ None → x.lines ≡ skipped_lines skipped ++ copies_lines s tag xs → x.objects ≡ copies_put s tag xs → x.removes ≡ copies_gone xs → t ≡ after_copies s tag xs → Hands held s (RecoverCopy tag until) x t
  renew-hands x t accepted lines objects removes is =
      hands-by held s (RecoverCopy tag until) x t (skipped_lines skipped ++ copies_lines s tag xs) (renewing s tag xs) (after_copies s tag xs) (comes None accepted) lines objects removes is

  pub renew-refused : (r : Refusal) → renewed_refusal s xs ≡ Some r → Refuses held s (RecoverCopy tag until) r
  renew-refused r is = comes (Some r) is
