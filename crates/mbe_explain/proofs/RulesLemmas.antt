-- What is told of rules: one by one, and the first that fits is the one that a call takes.
use Rattle.std.proofs.Common.{◌≡◌, refl, sym, ap, subst, ◌∙◌, ℕ, zero, suc, ◌<◌, ◌≤◌, Bool, true, false, List, [], ◌∷◌, ◌++◌}
use Rattle.std.proofs.Common.{Option, Some, None, length, map, get_or, drop, drop-cons, append_assoc, ◌||◌, arith}
use Rattle.std.proofs.lemmas.List.{append-nil, drop_all}
use Rattle.std.specs.Prelude.{is_some, option_map, if◌then◌else◌}
use Rattle.tt_data.specs.Forest.{Forest}
use Rattle.tt_data.specs.declared.span.Span.{Span}
use Rattle.mbe_rules.specs.Items as spec
use Rattle.mbe_rules.specs.Ops.{rule_of}
use Rattle.mbe_rules.specs.declared.macro_call_style.MacroCallStyle.{MacroCallStyle}
use Rattle.mbe_rules.specs.declared.rules.Rule.{Rule}
use Rattle.mbe_matcher.specs.Grammar.{Grammar}
use Rattle.mbe.specs.Fit.{fit_from, or_later, rule_fit, same_style}
use Rattle.std.specs.List.{list_any}
use Rattle.mbe_matcher.specs.Readings.{the_reading}
use Rattle.mbe.specs.Bursts.{rule_bursts, template_bursts}
use Rattle.mbe_explain.specs.Rules.{AreTold, HasTooMuch, IsRuleStop, first_fitting, of_style}
use Rattle.mbe_explain.specs.declared.rules.RuleStop.{RuleStop}

module _ (is_identifier : List ℕ → Bool) (gr : Grammar) (argument : Forest) (style : MacroCallStyle) where
  -- what is told of the rules from one on completes what is told of those before it
  abbrev pub ToldFrom : List Rule → ℕ → List RuleStop → Type 0
  ToldFrom rs i told =
      (more : List RuleStop) → AreTold is_identifier gr argument (of_style style i (map rule_of (drop i rs))) more →
      AreTold is_identifier gr argument (of_style style 0 (map rule_of rs)) (told ++ more)

  -- what is told of a rule of this style, and of those after it
  with-style : (b : Bool) (i : ℕ) (r : spec.Rule) (rest : List (ℕ × spec.Rule)) (s : RuleStop) (more : List RuleStop) → b ≡ true →
      IsRuleStop is_identifier gr argument i r s → AreTold is_identifier gr argument rest more →
      AreTold is_identifier gr argument (if b then (i, r) ∷ rest else rest) (s ∷ more)
  with-style true i r rest s more e w h = (w, h)
  with-style false i r rest s more e w h = absurd (cc e)

  without-style : (b : Bool) (i : ℕ) (r : spec.Rule) (rest : List (ℕ × spec.Rule)) (more : List RuleStop) → b ≡ false →
      AreTold is_identifier gr argument rest more → AreTold is_identifier gr argument (if b then (i, r) ∷ rest else rest) more
  without-style false i r rest more e h = h
  without-style true i r rest more e h = absurd (cc e)

  next-rules : (rs : List Rule) (i : ℕ) (x : Rule) → i < length rs → x ≡ get_or rs i x → drop i rs ≡ x ∷ drop (suc i) rs
  next-rules rs i x h e = drop-cons rs i x h ∙ ap (λ y. y ∷ drop (suc i) rs) (sym e)

  -- one more is told of
  pub told-here : (rs : List Rule) (i : ℕ) (x : Rule) (told : List RuleStop) (s : RuleStop) → i < length rs → x ≡ get_or rs i x →
      same_style style x.style ≡ true → IsRuleStop is_identifier gr argument i (rule_of x) s → ToldFrom rs i told →
      ToldFrom rs (suc i) (told ++ (s ∷ []))
  told-here rs i x told s h e same w from more there =
      let d = next-rules rs i x h e in
      let here = with-style (same_style style x.style) i (rule_of x) (of_style style (suc i) (map rule_of (drop (suc i) rs))) s more same w there in
      subst (AreTold is_identifier gr argument (of_style style 0 (map rule_of rs))) (sym (append_assoc told (s ∷ []) more))
      (from (s ∷ more) (subst (λ l. AreTold is_identifier gr argument (of_style style i (map rule_of l)) (s ∷ more)) (sym d) here))

  -- one of another style is passed
  pub told-past : (rs : List Rule) (i : ℕ) (x : Rule) (told : List RuleStop) → i < length rs → x ≡ get_or rs i x →
      same_style style x.style ≡ false → ToldFrom rs i told → ToldFrom rs (suc i) told
  told-past rs i x told h e other from more there =
      let d = next-rules rs i x h e in
      let here = without-style (same_style style x.style) i (rule_of x) (of_style style (suc i) (map rule_of (drop (suc i) rs))) more other there in
      from more (subst (λ l. AreTold is_identifier gr argument (of_style style i (map rule_of l)) more) (sym d) here)

  -- all are told of
  pub all-told : (rs : List Rule) (i : ℕ) (told : List RuleStop) → length rs ≤ i → ToldFrom rs i told →
      AreTold is_identifier gr argument (of_style style 0 (map rule_of rs)) told
  all-told rs i told e from =
      subst (AreTold is_identifier gr argument (of_style style 0 (map rule_of rs))) (append-nil told)
      (from [] (subst (λ l. AreTold is_identifier gr argument (of_style style i (map rule_of l)) []) (sym (drop_all i rs e)) tt))

  -- ---- the first that fits

  abbrev pub index_in : Option (ℕ × Forest) → Option ℕ
  index_in o = option_map (λ (r : ℕ × Forest). r.0) o

  picked : (n : ℕ) (s : RuleStop) (told : List RuleStop) (later : Option (ℕ × Forest)) (o : Option Forest) (b : Bool) → b ≡ is_some o →
      s.index ≡ n → first_fitting told ≡ index_in later → (if b then Some s.index else first_fitting told) ≡ index_in (or_later n o later)
  picked n s told later (Some f) true e i h = ap Some i
  picked n s told later (Some f) false e i h = absurd (cc e)
  picked n s told later None true e i h = absurd (cc e)
  picked n s told later None false e i h = h

  module _ (mark : Span → Span) where
    by-style : (b : Bool) (n : ℕ) (r : spec.Rule) (rest : List (ℕ × spec.Rule)) (later : Option (ℕ × Forest)) (told : List RuleStop) →
        ((more : List RuleStop) → AreTold is_identifier gr argument rest more → first_fitting more ≡ index_in later) →
        AreTold is_identifier gr argument (if b then (n, r) ∷ rest else rest) told →
        first_fitting told ≡ index_in (or_later n (elim b [ true ↦ rule_fit is_identifier gr mark r argument | false ↦ None ]) later)
    by-style false n r rest later told after h = after told h
    by-style true n r rest later [] after h = absurd h
    by-style true n r rest later (s ∷ told) after h =
        picked n s told later (rule_fit is_identifier gr mark r argument) s.fits (h.0.fits mark) h.0.number (after told h.1)

    pub first-fits : (n : ℕ) (rs : List spec.Rule) (told : List RuleStop) → AreTold is_identifier gr argument (of_style style n rs) told →
        first_fitting told ≡ index_in (fit_from is_identifier gr mark style argument n rs)
    first-fits n [] [] h = refl
    first-fits n [] (s ∷ told) h = absurd h
    first-fits n (r ∷ rs) told h =
        by-style (same_style style r.style) n r (of_style style (suc n) rs) (fit_from is_identifier gr mark style argument (suc n) rs) told
        (λ more w. first-fits (suc n) rs more w) h

-- ---- too many tokens

or-true : (a b : Bool) → b ≡ true → (a || b) ≡ true
or-true true b e = refl
or-true false b e = e

or-first : (a b : Bool) → a ≡ true → (a || b) ≡ true
or-first true b e = refl
or-first false b e = absurd (cc e)

-- what holds of one of some rules holds of one of them
pub any-at : {A B : Type 0} (p : B → Bool) (f : A → B) (xs : List A) (i : ℕ) (x : A) → i < length xs → x ≡ get_or xs i x → p (f x) ≡ true →
    list_any p (map f xs) ≡ true
any-at p f [] i x h e w = absurd (omega arith)
any-at p f (y ∷ xs) zero x h e w = or-first (p (f y)) (list_any p (map f xs)) (ap (λ z. p (f z)) (sym e) ∙ w)
any-at p f (y ∷ xs) (suc i) x h e w = or-true (p (f y)) (list_any p (map f xs)) (any-at p f xs i x (omega arith) e w)

-- a rule of this style that has too much
pub bursts-here : (is_identifier : List ℕ → Bool) (gr : Grammar) (argument : Forest) (style : MacroCallStyle) (r : spec.Rule) → same_style style r.style ≡ true →
    HasTooMuch is_identifier gr argument r → rule_bursts is_identifier gr (λ s. s) style r argument ≡ true
bursts-here is_identifier gr argument style r same much =
    subst (λ b. elim b [ true ↦ template_bursts is_identifier gr (λ s. s) r (the_reading gr r.pattern argument) | false ↦ false ] ≡ true) (sym same) much
