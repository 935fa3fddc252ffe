-- A RUN goes on by one statement.
use Rattle.std.specs.List.{list_all}
use Rattle.std.proofs.Common.{All, ◌≡◌, ◌∙◌, ◌++◌, ◌||◌, ◌&&◌, not, nat_lt, if◌then◌else◌, ℕ, List, [], ◌∷◌, Option, Some, None, Bool, true, false, MatchBool, inl, inr, refl, ap, sym, subst, append-nil, append_assoc, length}
use Rattle.std.proofs.lemmas.{Bool.{and_parts}, List.{nil_from_length, Elements.{All-append, All-cons, All-nil}}}
use Rattle.std.proofs.Math.Bool.{or-false, or_assoc}
use Rattle.rm_base.specs.{Store.{Held}, declared.refusal.{Limit.TheVariants.{Channels}, Refusal.TheVariants.{Rm02, Rm11}}}
use Rattle.rm_catalog.specs.declared.record.Record.{Record}
use Rattle.rm_lang_statement.specs.declared.command.Inner.{Inner, TheVariants.{SetUntil, AllocateChannel, Plain as PlainInner}}
use Rattle.rm_report.specs.{Reply.{IsFlagged, IsPlain, refused_by, said}, declared.line.{Line.{Line}, Reply.{Reply}}}
use Rattle.rm_report.{specs.declared.line.Line.TheVariants.{ChannelAllocated, UntilSet}, proofs.Plain.{refused-flagged, said-flagged}}
use Rattle.rm_machine.specs.{Laws.{only_tells}, Machine.{Machine}, Rest.{Rest, at_rest}, declared.state.State.{State}}
use Rattle.rm_machine_laws.{specs.Holds.{Holds, HoldsRest, Stands, View}, proofs.Halting.{rests}}
use Rattle.rm_tool.specs.Block.{BlockLeaves, BlockSteps, InnerLeaves, IsHonestInside, after_inner, channel_reply, inner_applies, joined, set_reply, unset, with_until}
use Rattle.rm_tool.specs.{Serving.{InnerSteps, InnerStops}, declared.block.Settings.{Settings}}

-- As far as a RUN came, from the machine `first` on, with these lines: the machine behind the statements that are done, and
-- what comes of the whole by what comes of those that are left.
pub record Inside (held : Option Held) (kept : Option (List Record)) (origin v : View) (x : Settings) (block left : List Inner) (clock : ℕ) (lines : List Line) (first : Machine) : Type 0 where
  pub machine : Machine
  pub applied : Bool
  pub stands : Stands v machine
  pub holds : Holds held kept machine
  pub tells : IsHonestInside x machine left clock
  pub knows : v.applied ≡ (origin.applied || applied)
  pub goes : (reply : Reply) (more : Bool) (n : Machine) → BlockSteps x machine left clock reply more n → BlockSteps unset first block clock (joined (said lines) reply) (applied || more) n
  pub leaves : (r : Rest) → BlockLeaves x machine left clock r → BlockLeaves unset first block clock r

-- so for whatever machine the site stood for at the start
abbrev pub InsideEach : Option Held → Option (List Record) → View → Option Held → Option (List Record) → View → Settings → List Inner → List Inner → ℕ → List Line → Type 0
InsideEach held kept origin held' kept' v x block left clock lines = (m : Machine) → Stands origin m → Holds held kept m → IsHonestInside unset m block clock → Inside held' kept' origin v x block left clock lines m

-- the reply to a whole RUN of the machine `first`, and what there is then
abbrev pub IsWhole : Option Held → Option (List Record) → View → View → List Inner → ℕ → Reply → Machine → Type 0
IsWhole held kept origin v block clock reply first =
    (n : Machine) × (all : Bool) × BlockSteps unset first block clock reply all n × Stands v n × Holds held kept n × (v.applied ≡ (origin.applied || all))

match-map : (b : Bool) (P Q R S : Type 0) → (P → R) → (Q → S) → MatchBool b P Q → MatchBool b R S
match-map true P Q R S f g p = f p
match-map false P Q R S f g q = g q

-- what is left at rest is what a statement of a RUN leaves of which nothing was done
rest-here : (x : Settings) (n : Machine) (y : Inner) (clock : ℕ) → InnerLeaves x n y clock (at_rest n)
rest-here x n (PlainInner c) clock = inl refl
rest-here x n (SetUntil until) clock = refl
rest-here x n AllocateChannel clock = refl

pub inner-untouched : {held : Option Held} {kept : Option (List Record)} (v : View) (x : Settings) (y : Inner) (clock : ℕ) → InnerStops held kept v x y clock held kept
inner-untouched {held = held} {kept = kept} v x y clock m stands holds tell = (at_rest m, rest-here x m y clock, rests held kept m holds)

-- and what a RUN leaves
rest-leaves : (x : Settings) (n : Machine) (ys : List Inner) (clock : ℕ) → BlockLeaves x n ys clock (at_rest n)
rest-leaves x n [] clock = refl
rest-leaves x n (y ∷ ys) clock = inl (rest-here x n y clock)

-- what a whole RUN leaves at rest is left
pub block-leaves : (x : Settings) (m : Machine) (ys : List Inner) (clock : ℕ) (reply : Reply) (applied : Bool) (n : Machine) → BlockSteps x m ys clock reply applied n → BlockLeaves x m ys clock (at_rest n)
block-leaves x m [] clock reply applied n steps = ap at_rest steps.2
block-leaves x m (y ∷ ys) clock reply applied n (first, mid, step, after) =
    inr (first, mid, step, match-map first.refused _ _ _ _ (λ ended. ap at_rest ended.2) (λ rest. block-leaves (after_inner x y) mid ys clock rest.0 rest.1 n rest.2) after)

-- no list was applied for what is refused
pub refused-applies : (x : Settings) (y : Inner) (reply : Reply) → reply.refused ≡ true → inner_applies x y reply ≡ false
refused-applies x (PlainInner c) reply refused = ap (λ b. not b && not (only_tells (with_until x.until c))) refused
refused-applies x (SetUntil until) reply refused = refl
refused-applies x AllocateChannel reply refused = refl

pub match-true : {b : Bool} (P Q : Type 0) → b ≡ true → P → MatchBool b P Q
match-true P Q is p = subst (λ (b : Bool). MatchBool b P Q) (sym is) p

pub match-false : {b : Bool} (P Q : Type 0) → b ≡ false → Q → MatchBool b P Q
match-false P Q is q = subst (λ (b : Bool). MatchBool b P Q) (sym is) q

match-both : (b : Bool) (P Q : Type 0) → P → Q → MatchBool b P Q
match-both true P Q p q = p
match-both false P Q p q = q

-- what all pass, those behind the first pass
pub others-pass : (p : Inner → Bool) {all : List Inner} (y : Inner) (ys : List Inner) → all ≡ y ∷ ys → list_all p all ≡ true → list_all p ys ≡ true
others-pass p y ys is pass = (and_parts (p y) (list_all p ys) (subst (λ (xs : List Inner). list_all p xs ≡ true) is pass)).1

-- what is so of all lines, and of all that are added
pub all-added : (P : Line → Type 0) (lines more all : List Line) → all ≡ lines ++ more → All P lines → All P more → All P all
all-added P lines more all added had have = subst (All P) (sym added) (All-append P lines more had have)

-- From where it came, where the statement y is the next one
module _ {held : Option Held} {kept : Option (List Record)} {origin v : View} {x : Settings} {y : Inner} {block left others : List Inner} {clock : ℕ} {lines : List Line} {first : Machine}
    (at : Inside held kept origin v x block left clock lines first) (is : left ≡ y ∷ others) where
  next : Inside held kept origin v x block (y ∷ others) clock lines first
  next = subst (λ (ys : List Inner). Inside held kept origin v x block ys clock lines first) is at

  module _ {held' : Option Held} {kept' : Option (List Record)} (v' : View) (reply : Reply) (steps : InnerSteps held kept v x y clock reply held' kept' v') where
    -- it was done, and no reply came of it
    pub inside-done : (r : Rest) × BlockLeaves unset first block clock r × HoldsRest held' kept' r
    inside-done =
        let n = steps next.machine next.stands next.holds next.tells.0 in
        let r : Rest = at_rest n.0 in
        let after : BlockLeaves (after_inner x y) n.0 others clock r = rest-leaves (after_inner x y) n.0 others clock in
        (r, next.leaves r (inr (reply, n.0, n.1, match-both reply.refused _ _ refl after)), rests held' kept' n.0 n.3)

    module _ (all : List Line) (added : all ≡ lines ++ reply.lines) (applied : v'.applied ≡ (v.applied || inner_applies x y reply)) where
      -- it was done
      pub inside-more : (z : Settings) → z ≡ after_inner x y → reply.refused ≡ false → Inside held' kept' origin v' z block others clock all first
      inside-more z set accepted =
          let n = steps next.machine next.stands next.holds next.tells.0 in
          let here : Bool = inner_applies x y reply in
          subst (λ (w : Settings). Inside held' kept' origin v' w block others clock all first) (sym set)
          (subst (λ (ls : List Line). Inside held' kept' origin v' (after_inner x y) block others clock ls first) (sym added)
          (record {
            machine = n.0;
            applied = next.applied || here;
            stands = n.2;
            holds = n.3;
            tells = next.tells.1 reply n.0 n.1 accepted;
            knows = applied ∙ ap (λ b. b || here) next.knows ∙ or_assoc origin.applied next.applied here;
            goes = λ last more end after.
                subst (λ (b : Bool). BlockSteps unset first block clock (joined (said (lines ++ reply.lines)) last) b end) (sym (or_assoc next.applied here more))
                (subst (λ (ls : List Line). BlockSteps unset first block clock (record { lines = ls; refused = last.refused }) (next.applied || (here || more)) end) (sym (append_assoc lines reply.lines last.lines))
                (next.goes (joined reply last) (here || more) end (reply, n.0, n.1, match-false _ _ accepted (last, more, after, refl, refl))));
            leaves = λ r after. next.leaves r (inr (reply, n.0, n.1, match-false _ _ accepted after));
          }))

      -- it was refused
      pub inside-refused : reply.refused ≡ true → IsWhole held' kept' origin v' block clock (record { lines = all; refused = true }) first
      inside-refused refused =
          let n = steps next.machine next.stands next.holds next.tells.0 in
          let none : v'.applied ≡ v.applied = applied ∙ ap (λ b. v.applied || b) (refused-applies x y reply refused) ∙ or-false v.applied in
          let whole : BlockSteps unset first block clock (joined (said lines) reply) (next.applied || false) n.0 = next.goes reply false n.0 (reply, n.0, n.1, match-true _ _ refused (refl, refl, refl)) in
          let ends : BlockSteps unset first block clock (joined (said lines) reply) next.applied n.0 = subst (λ (b : Bool). BlockSteps unset first block clock (joined (said lines) reply) b n.0) (or-false next.applied) whole in
          let refuses : BlockSteps unset first block clock (record { lines = lines ++ reply.lines; refused = true }) next.applied n.0 =
          subst (λ (b : Bool). BlockSteps unset first block clock (record { lines = lines ++ reply.lines; refused = b }) next.applied n.0) refused ends in
          (n.0, next.applied, subst (λ (ls : List Line). BlockSteps unset first block clock (record { lines = ls; refused = true }) next.applied n.0) (sym added) refuses, n.2, n.3, none ∙ next.knows)

-- all were done
pub inside-all : {held : Option Held} {kept : Option (List Record)} {origin v : View} {x : Settings} {block left : List Inner} {clock : ℕ} {lines : List Line} {first : Machine} → Inside held kept origin v x block left clock lines first
    → length left ≡ 0 → (reply : Reply) → reply ≡ said lines → IsWhole held kept origin v block clock reply first
inside-all {held = held} {kept = kept} {origin = origin} {v = v} {x = x} {block = block} {left = left} {clock = clock} {lines = lines} {first = first} at none reply is =
    let p : Inside held kept origin v x block [] clock lines first = subst (λ (ys : List Inner). Inside held kept origin v x block ys clock lines first) (nil_from_length left none) at in
    let whole : BlockSteps unset first block clock (joined (said lines) (said [])) (p.applied || false) p.machine = p.goes (said []) false p.machine (refl, refl, refl) in
    let ends : BlockSteps unset first block clock (joined (said lines) (said [])) p.applied p.machine = subst (λ (b : Bool). BlockSteps unset first block clock (joined (said lines) (said [])) b p.machine) (or-false p.applied) whole in
    (p.machine, p.applied, subst (λ (r : Reply). BlockSteps unset first block clock r p.applied p.machine) (ap said (append-nil lines) ∙ sym is) ends, p.stands, p.holds, p.knows)

-- the replies to what a RUN sets are flagged rightly
pub set-flagged : (o : Option State) → IsFlagged (set_reply o)
set-flagged None = refused-flagged (refused_by Rm02) Rm02 refl
set-flagged (Some s) = said-flagged (said (UntilSet ∷ [])) (UntilSet ∷ []) refl (All-cons IsPlain UntilSet [] tt (All-nil IsPlain))

allocated-flagged : (b : Bool) → IsFlagged (if b then said (ChannelAllocated ∷ []) else refused_by (Rm11 Channels))
allocated-flagged true = said-flagged (said (ChannelAllocated ∷ [])) (ChannelAllocated ∷ []) refl (All-cons IsPlain ChannelAllocated [] tt (All-nil IsPlain))
allocated-flagged false = refused-flagged (refused_by (Rm11 Channels)) (Rm11 Channels) refl

pub channel-flagged : (o : Option State) (channels : ℕ) → IsFlagged (channel_reply o channels)
channel-flagged None channels = refused-flagged (refused_by Rm02) Rm02 refl
channel-flagged (Some s) channels = allocated-flagged (nat_lt channels 16)
