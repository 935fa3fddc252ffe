-- The walk of `clap` over words of the form `--name=value`, by the command of any form.
use Rattle.std.specs.Prelude.{fold}
use Rattle.std.proofs.Common.{◌≡◌, ◌∙◌, ◌&&◌, ◌++◌, ◌∷◌, [], ℕ, Bool, List, Some, true, false, not, map, refl, sym, ap, subst, append_assoc, append-nil, true≢false}
use Rattle.clap.specs.{Kinds.{Kinds, or_else}, Lexer.{name_and_value}, Walk.{Walk, has_row, walked}, Faults.{turn_fault, walk_fault}}
use Rattle.clap.proofs.{CutLemmas.{Lacks}, LexerLemmas.{name_and_value-at}}
use Rattle.rm_lang_words.specs.{Options.{Given, Text}, Form.{Form, is_name, is_named, are_options}, Clap.{one_word}}
use Rattle.rm_lang_words.proofs.Clap.{Known, at, found_fault, found_walk, known, named_rows, row, rules, shape, unknown}

unfoldable pub is_empty : Kinds → Bool
is_empty [] = true
is_empty (k ∷ ks) = false

pub filled : (ks : Kinds) → is_empty ks ≡ false → ks ≡ [] → ⊥
unfolding is_empty
filled ks some none = true≢false (sym (ap is_empty none) ∙ some)

-- the step over one word: it is taken, or refused
Step : Form → Bool → Text → Text → List Given → Text → Type 0
Step form true n v seen word = (turn_fault (shape form) [] (at seen) word ≡ []) × (walked (rules form) [] (at seen) word ≡ at (seen ++ (n, v) ∷ []))
Step form false n v seen word = is_empty (turn_fault (shape form) [] (at seen) word) ≡ false

step_at : (form : Form) (x : ℕ) (xs n v : Text) → name_and_value (x ∷ xs) ≡ (n, Some v) → (seen : List Given) (a b : Bool) → Known form n a → is_named n seen ≡ b
    → Step form (a && not b) n v seen (45 ∷ 45 ∷ x ∷ xs)
unfolding Step is_empty Known
step_at form x xs n v parts seen true true (e, same, is) named =
    ap is_empty (found_fault form x xs n v parts seen e true is (ap (λ m. has_row m (map row seen)) same ∙ named_rows n seen ∙ named))
step_at form x xs n v parts seen true false (e, same, is) named =
    let fresh = ap (λ m. has_row m (map row seen)) same ∙ named_rows n seen ∙ named in
    (found_fault form x xs n v parts seen e false is fresh, found_walk form x xs n v parts seen e same is fresh)
step_at form x xs n v parts seen false b is named = ap is_empty (unknown form x xs n v parts seen is)

step : (form : Form) (n v : Text) → Lacks 61 n → (seen : List Given) → Step form (is_name form n && not (is_named n seen)) n v seen (one_word (n, v))
step form [] v lacks seen = step_at form 61 v [] v (name_and_value-at [] v lacks) seen _ _ (known form []) refl
step form (x ∷ xs) v lacks seen = step_at form x (xs ++ 61 ∷ v) (x ∷ xs) v (name_and_value-at (x ∷ xs) v lacks) seen _ _ (known form (x ∷ xs)) refl

-- no name has `=`
abbrev pub Plain : List Given → Type 0
Plain [] = Unit {0}
Plain (o ∷ rest) = Lacks 61 o.0 × Plain rest

-- the walk over all the words: each is taken, or one is refused
unfoldable pub Walks : Bool → Kinds → Walk → List Given → Type 0
Walks true ks w all = (ks ≡ []) × (w ≡ at all)
Walks false ks w all = is_empty ks ≡ false

-- after one word
onward : (form : Form) (t rest : Bool) (n v : Text) (seen left : List Given) → Step form t n v seen (one_word (n, v))
    → Walks rest (walk_fault (shape form) [] (at (seen ++ (n, v) ∷ [])) (map one_word left)) (fold (walked (rules form) []) (at (seen ++ (n, v) ∷ [])) (map one_word left)) ((seen ++ (n, v) ∷ []) ++ left)
    → Walks (t && rest) (walk_fault (shape form) [] (at seen) (map one_word ((n, v) ∷ left))) (fold (walked (rules form) []) (at seen) (map one_word ((n, v) ∷ left))) (seen ++ (n, v) ∷ left)
unfolding Step Walks is_empty walk_fault
onward form true rest n v seen left s w =
    let word = one_word (n, v) in
    subst (λ all. Walks rest (walk_fault (shape form) [] (at seen) (word ∷ map one_word left)) (fold (walked (rules form) []) (at seen) (word ∷ map one_word left)) all) (append_assoc seen ((n, v) ∷ []) left)
    (subst (λ (x : Walk). Walks rest (or_else (turn_fault (shape form) [] (at seen) word) (walk_fault (shape form) [] x (map one_word left))) (fold (walked (rules form) []) x (map one_word left)) ((seen ++ (n, v) ∷ []) ++ left)) (sym s.1)
    (subst (λ (ks : Kinds). Walks rest (or_else ks (walk_fault (shape form) [] (at (seen ++ (n, v) ∷ [])) (map one_word left))) (fold (walked (rules form) []) (at (seen ++ (n, v) ∷ [])) (map one_word left)) ((seen ++ (n, v) ∷ []) ++ left)) (sym s.0) w))
onward form false rest n v seen left s w = go (turn_fault (shape form) [] (at seen) (one_word (n, v))) _ s
  where
    go : (ks more : Kinds) → is_empty ks ≡ false → is_empty (or_else ks more) ≡ false
    go [] more e = absurd (true≢false e)
    go (k ∷ ks) more e = refl

pub walks : (form : Form) (seen left : List Given) → Plain left
    → Walks (are_options form seen left) (walk_fault (shape form) [] (at seen) (map one_word left)) (fold (walked (rules form) []) (at seen) (map one_word left)) (seen ++ left)
unfolding Walks walk_fault
walks form seen [] plain = (refl, ap at (sym (append-nil seen)))
walks form seen ((n, v) ∷ rest) plain = onward form (is_name form n && not (is_named n seen)) (are_options form (seen ++ (n, v) ∷ []) rest) n v seen rest (step form n v plain.0 seen) (walks form (seen ++ (n, v) ∷ []) rest plain.1)
