-- What is left of limits behind notes, and where one is passed among them.
use Rattle.std.proofs.Common.{◌≡◌, ℕ, ◌-◌, List, [], ◌∷◌, ◌++◌, refl, sym, ap, subst, ◌∙◌, append_assoc, append-nil, Bool, true, false, if◌then◌else◌}
use Rattle.std.specs.Prelude.{Option, Some, None, is_some, option_map, ◌||◌}
use Rattle.tt_data.specs.Forest.{Forest}
use Rattle.expander_model.specs.Held.{Numbered}
use Rattle.expander_model.specs.Limits.{Notes, Passed, burst, calls_of, definition, tried, looked_in, note_of, passed_at_once, sized, burst_before, found_before, until_passed}
use Rattle.expander_model.specs.declared.limits.Limits.{Limits}
use Rattle.tt_data.specs.declared.span.Span.{Span}
use Rattle.expander_model.specs.declared.dialect.Dialect.{Dialect}
use Rattle.expander_scope.specs.Expanding.{among_notes, left_within, limits_at, limits_for}
use Rattle.expander_scope.specs.Spending.{BurstsFirst, Spends, is_passed, left_behind, less_by, limits_behind, passing}

-- ---- what is left

not_passed : (c : Bool) (o : Option Limits) (b : Option Limits) → option_map Some (if c then None else o) ≡ Some b → (c ≡ false) × (option_map Some o ≡ Some b)
not_passed true o b e = absurd (cc e)
not_passed false o b e = (refl, e)

behind_more : (l : Limits) (b : Option Limits) (xs ys : Notes Numbered) → option_map Some (limits_behind l xs) ≡ Some b → option_map Some (limits_behind l (xs ++ ys)) ≡ left_behind b ys
behind_more l b [] ys e = let is : Some l ≡ b = cc e in ap (λ o. left_behind o ys) is
behind_more l b ((key, Some (tried c n)) ∷ xs) ys e =
    let h = not_passed (is_passed l c n) (limits_behind (less_by l c n) xs) b e in
    ap (λ t. option_map Some (if t then None else limits_behind (less_by l c n) (xs ++ ys))) h.0 ∙ behind_more (less_by l c n) b xs ys h.1
behind_more l b ((key, Some burst) ∷ xs) ys e = behind_more l b xs ys e
behind_more l b ((key, Some (definition d)) ∷ xs) ys e = behind_more l b xs ys e
behind_more l b ((key, None) ∷ xs) ys e = behind_more l b xs ys e

pub left_more : (a b : Option Limits) (xs ys : Notes Numbered) → Spends a b xs → left_behind a (xs ++ ys) ≡ left_behind b ys
left_more None b xs ys e = let is : None ≡ b = cc e in ap (λ o. left_behind o ys) is
left_more (Some l) b xs ys e = behind_more l b xs ys e

-- notes are spent one after another
pub spends_more : (a b c : Option Limits) (xs ys : Notes Numbered) → Spends a b xs → Spends b c ys → Spends a c (xs ++ ys)
spends_more a b c xs ys e h = left_more a b xs ys e ∙ h

pub spends_nothing : (a : Option Limits) → Spends a a []
spends_nothing None = refl
spends_nothing (Some l) = refl

pub spends_same : (a b : Option Limits) → b ≡ a → Spends a b []
spends_same a b e = subst (λ x. Spends a x []) (sym e) (spends_nothing a)

-- look-ups cost nothing
pub spends_looks : (a : Option Limits) (xs : List (List ℕ × Option Numbered)) → Spends a a (among_notes xs)
spends_looks None xs = refl
spends_looks (Some l) [] = refl
spends_looks (Some l) ((key, Some d) ∷ xs) = spends_looks (Some l) xs
spends_looks (Some l) ((key, None) ∷ xs) = spends_looks (Some l) xs

-- a call costs the same, whether a rule puts out too much or not
pub spends_note : (a c : Option Limits) (b : Bool) (o : Option Forest) (n : ℕ) (ys : Notes Numbered) → Spends a c (sized (calls_of o) n ++ ys) → Spends a c (note_of b o n ++ ys)
spends_note None c b o n ys e = e
spends_note (Some l) c true o n ys e = e
spends_note (Some l) c false o n ys e = e

-- ---- where a limit is passed

-- a rule puts out too much
abbrev pub has_burst : Notes Numbered → Bool
has_burst [] = false
has_burst ((key, Some burst) ∷ xs) = true
has_burst ((key, Some (tried c n)) ∷ xs) = has_burst xs
has_burst ((key, Some (definition d)) ∷ xs) = has_burst xs
has_burst ((key, None) ∷ xs) = has_burst xs

-- what comes before a limit is passed, behind these notes
abbrev pub behind_notes : Notes Numbered → Passed Numbered → Passed Numbered
behind_notes xs p = record { finds = looked_in xs ++ p.finds; bursts = has_burst xs || p.bursts }

behind_none : (o : Option (Passed Numbered)) → o ≡ option_map (behind_notes []) o
behind_none None = refl
behind_none (Some p) = refl

mapped_burst : (key : List ℕ) (xs : Notes Numbered) (o : Option (Passed Numbered)) → option_map burst_before (option_map (behind_notes xs) o) ≡ option_map (behind_notes ((key, Some burst) ∷ xs)) o
mapped_burst key xs None = refl
mapped_burst key xs (Some p) = refl

mapped_find : (key : List ℕ) (d : Numbered) (xs : Notes Numbered) (o : Option (Passed Numbered)) → option_map (found_before (key, Some d)) (option_map (behind_notes xs) o) ≡ option_map (behind_notes ((key, Some (definition d)) ∷ xs)) o
mapped_find key d xs None = refl
mapped_find key d xs (Some p) = refl

mapped_none : (key : List ℕ) (xs : Notes Numbered) (o : Option (Passed Numbered)) → option_map (found_before (key, None)) (option_map (behind_notes xs) o) ≡ option_map (behind_notes ((key, None) ∷ xs)) o
mapped_none key xs None = refl
mapped_none key xs (Some p) = refl

until_more : (l : Limits) (b : Option Limits) (xs ys : Notes Numbered) → option_map Some (limits_behind l xs) ≡ Some b
    → until_passed l.calls l.tokens (xs ++ ys) ≡ option_map (behind_notes xs) (passing b ys)
until_more l b [] ys e = let is : Some l ≡ b = cc e in ap (λ o. passing o ys) is ∙ behind_none (passing b ys)
until_more l b ((key, Some (tried c n)) ∷ xs) ys e =
    let h = not_passed (is_passed l c n) (limits_behind (less_by l c n) xs) b e in
    ap (λ t. if t then Some passed_at_once else until_passed (l.calls - c) (l.tokens - n) (xs ++ ys)) h.0 ∙ until_more (less_by l c n) b xs ys h.1
until_more l b ((key, Some burst) ∷ xs) ys e = ap (option_map burst_before) (until_more l b xs ys e) ∙ mapped_burst key xs (passing b ys)
until_more l b ((key, Some (definition d)) ∷ xs) ys e = ap (option_map (found_before (key, Some d))) (until_more l b xs ys e) ∙ mapped_find key d xs (passing b ys)
until_more l b ((key, None) ∷ xs) ys e = ap (option_map (found_before (key, None))) (until_more l b xs ys e) ∙ mapped_none key xs (passing b ys)

-- a limit is passed behind notes in which none is
pub passing_more : (a b : Option Limits) (xs ys : Notes Numbered) → Spends a b xs → passing a (xs ++ ys) ≡ option_map (behind_notes xs) (passing b ys)
passing_more None b xs ys e = let is : None ≡ b = cc e in ap (λ o. option_map (behind_notes xs) (passing o ys)) is
passing_more (Some l) b xs ys e = until_more l b xs ys e

nothing_passes : (b : Option Limits) → passing b [] ≡ None
nothing_passes None = refl
nothing_passes (Some l) = refl

-- none is passed in notes that are spent
pub none_passed : (a b : Option Limits) (xs : Notes Numbered) → Spends a b xs → passing a xs ≡ None
none_passed a b xs e =
    ap (passing a) (sym (append-nil xs)) ∙ passing_more a b xs [] e ∙ ap (option_map (behind_notes xs)) (nothing_passes b)

mapped_some : {X Y : Type 0} (f : X → Y) (o : Option X) (y : Y) → option_map f o ≡ Some y → (x : X) × ((o ≡ Some x) × (f x ≡ y))
mapped_some f None y e = absurd (cc e)
mapped_some f (Some x) y e = (x, (refl, cc e))

passed_or : (c : Bool) (q : Passed Numbered) (o o' : Option (Passed Numbered)) (p : Passed Numbered) → (o ≡ Some p → o' ≡ Some p) → (if c then Some q else o) ≡ Some p → (if c then Some q else o') ≡ Some p
passed_or true q o o' p f e = e
passed_or false q o o' p f e = f e

until_before : (calls tokens : ℕ) (xs ys : Notes Numbered) (p : Passed Numbered) → until_passed calls tokens xs ≡ Some p → until_passed calls tokens (xs ++ ys) ≡ Some p
until_before calls tokens [] ys p e = absurd (cc e)
until_before calls tokens ((key, Some (tried c n)) ∷ xs) ys p e =
    passed_or _ passed_at_once (until_passed (calls - c) (tokens - n) xs) (until_passed (calls - c) (tokens - n) (xs ++ ys)) p (until_before (calls - c) (tokens - n) xs ys p) e
until_before calls tokens ((key, Some burst) ∷ xs) ys p e =
    let h = mapped_some burst_before (until_passed calls tokens xs) p e in
    ap (option_map burst_before) (until_before calls tokens xs ys h.0 h.1.0) ∙ ap Some h.1.1
until_before calls tokens ((key, Some (definition d)) ∷ xs) ys p e =
    let h = mapped_some (found_before (key, Some d)) (until_passed calls tokens xs) p e in
    ap (option_map (found_before (key, Some d))) (until_before calls tokens xs ys h.0 h.1.0) ∙ ap Some h.1.1
until_before calls tokens ((key, None) ∷ xs) ys p e =
    let h = mapped_some (found_before (key, None)) (until_passed calls tokens xs) p e in
    ap (option_map (found_before (key, None))) (until_before calls tokens xs ys h.0 h.1.0) ∙ ap Some h.1.1

-- notes behind it change nothing
pub passing_before : (a : Option Limits) (xs ys : Notes Numbered) (p : Passed Numbered) → passing a xs ≡ Some p → passing a (xs ++ ys) ≡ Some p
passing_before None xs ys p e = absurd (cc e)
passing_before (Some l) xs ys p e = until_before l.calls l.tokens xs ys p e

gone_at : (c : Bool) (l : Limits) (o : Option (Passed Numbered)) → ◌≡◌ {A = Option (Option Limits)} (option_map Some (if c then None else Some l)) None → (if c then Some passed_at_once else o) ≡ Some passed_at_once
gone_at true l o e = refl
gone_at false l o e = absurd (cc e)

-- the first call passes it
pub passed_here : (a : Option Limits) (c n : ℕ) (ys : Notes Numbered) → left_behind a (sized c n) ≡ None → passing a (sized c n ++ ys) ≡ Some passed_at_once
passed_here None c n ys e = absurd (cc e)
passed_here (Some l) c n ys e = gone_at (is_passed l c n) (less_by l c n) (until_passed (l.calls - c) (l.tokens - n) ys) e

-- whether a rule puts out too much or not
pub passing_note : (a : Option Limits) (b : Bool) (o : Option Forest) (n : ℕ) (ys : Notes Numbered) (p : Passed Numbered) → passing a (sized (calls_of o) n ++ ys) ≡ Some p
    → (q : Passed Numbered) × ((passing a (note_of b o n ++ ys) ≡ Some q) × (q.finds ≡ p.finds))
passing_note None b o n ys p e = absurd (cc e)
passing_note (Some l) true o n ys p e = (burst_before p, (ap (option_map burst_before) e, refl))
passing_note (Some l) false o n ys p e = (p, (e, refl))

pub none_passed_note : (a : Option Limits) (b : Bool) (o : Option Forest) (n : ℕ) (ys : Notes Numbered) → passing a (sized (calls_of o) n ++ ys) ≡ None → passing a (note_of b o n ++ ys) ≡ None
none_passed_note None b o n ys e = refl
none_passed_note (Some l) true o n ys e = ap (option_map burst_before) e
none_passed_note (Some l) false o n ys e = e

-- ---- too much, before a limit is passed

pub bursts_none : (xs : Notes Numbered) → BurstsFirst None xs
bursts_none xs more p e = absurd (cc e)

-- behind notes in which none is passed
pub bursts_more : (a b : Option Limits) (xs ys : Notes Numbered) → Spends a b xs → BurstsFirst b ys → BurstsFirst a (xs ++ ys)
bursts_more a b xs ys e first more p is =
    let h = mapped_some (behind_notes xs) (passing b (ys ++ more)) p
    (sym (passing_more a b xs (ys ++ more) e) ∙ ap (passing a) (sym (append_assoc xs ys more)) ∙ is) in
    sym (ap (λ (q : Passed Numbered). q.bursts) h.1.1) ∙ later (has_burst xs) h.0.bursts (first more h.0 h.1.0)
  where
    later : (c d : Bool) → d ≡ true → (c || d) ≡ true
    later true d e = refl
    later false d e = e

-- before more notes
pub bursts_before : (a : Option Limits) (xs ys : Notes Numbered) → BurstsFirst a xs → BurstsFirst a (xs ++ ys)
bursts_before a xs ys first more p is = first (ys ++ more) p (ap (passing a) (sym (append_assoc xs ys more)) ∙ is)

-- at once
pub bursts_here : (a : Option Limits) (o : Option Forest) (n : ℕ) (ys : Notes Numbered) → BurstsFirst a (note_of true o n ++ ys)
bursts_here None o n ys more p e = absurd (cc e)
bursts_here (Some l) o n ys more p e =
    let h = mapped_some burst_before (until_passed l.calls l.tokens ((sized (calls_of o) n ++ ys) ++ more)) p e in sym (ap (λ (q : Passed Numbered). q.bursts) h.1.1)

-- with the note of a call
pub bursts_note : (a : Option Limits) (b : Bool) (o : Option Forest) (n : ℕ) (ys : Notes Numbered) → BurstsFirst a (sized (calls_of o) n ++ ys) → BurstsFirst a (note_of b o n ++ ys)
bursts_note a true o n ys first = bursts_here a o n ys
bursts_note a false o n ys first = first

-- ---- whose limits

-- limits of its own has only a call that none is expanded around
abbrev pub IsApart : Option Limits → Option Limits → Type 0
IsApart None left = Unit {0}
IsApart (Some l) left = left ≡ None

pub apart_at : (dialect : Dialect) (outer : Option Span) (left : Option Limits) → (outer ≡ None → left ≡ None) → IsApart (limits_at dialect outer) left
apart_at dialect None left h = go dialect.limits
  where
    go : (l : Option Limits) → IsApart l left
    go None = tt
    go (Some l) = h refl
apart_at dialect (Some at) left h = tt

-- a call by limits of its own leaves what is left as it was, where it passes none of them; another
-- leaves what is left behind it
abbrev pub Charged : (own before after : Option Limits) → Notes Numbered → Type 0
Charged None before after notes = Spends before after notes
Charged (Some l) before after notes = (passing (Some l) notes ≡ None) × (after ≡ before)

pub charged_nothing : (own before after : Option Limits) → Charged own before after [] → Spends before after []
charged_nothing None before after h = h
charged_nothing (Some l) before after h = spends_same before after h.1

pub charged_at : (dialect : Dialect) (outer : Option Span) (left rest : Option Limits) (notes : Notes Numbered) → (outer ≡ None → left ≡ None)
    → Spends (limits_for dialect outer left) rest notes → Charged (limits_at dialect outer) left (left_within outer rest) notes
charged_at dialect (Some at) left rest notes apart e = e
charged_at dialect None left rest notes apart e = go dialect.limits e
  where
    go : (o : Option Limits) → Spends o rest notes → Charged o left None notes
    go None e = subst (λ x. Spends x None notes) (sym (apart refl)) refl
    go (Some l) e = (none_passed (Some l) rest notes e, sym (apart refl))

-- where no limits are a call's own, what is left where it begins is what is left
pub left_inside : (dialect : Dialect) (outer : Option Span) (left : Option Limits) → (outer ≡ None → left ≡ None) → limits_at dialect outer ≡ None → limits_for dialect outer left ≡ left
left_inside dialect (Some at) left apart e = refl
left_inside dialect None left apart e = e ∙ sym (apart refl)

-- and where they are, it is these
pub left_outside : (dialect : Dialect) (outer : Option Span) (left : Option Limits) → is_some outer ≡ false → limits_for dialect outer left ≡ limits_at dialect outer
left_outside dialect (Some at) left e = absurd (cc e)
left_outside dialect None left e = refl

pub none_outside : (outer : Option Span) → is_some outer ≡ false → outer ≡ None
none_outside None e = refl
none_outside (Some at) e = absurd (cc e)

pub none_inside : (dialect : Dialect) (outer : Option Span) → is_some outer ≡ true → limits_at dialect outer ≡ None
none_inside dialect None e = absurd (cc e)
none_inside dialect (Some at) e = refl

-- who has limits is outside
pub limits_outside : (dialect : Dialect) (outer : Option Span) → is_some (limits_at dialect outer) ≡ true → outer ≡ None
limits_outside dialect None e = refl
limits_outside dialect (Some at) e = absurd (cc e)

pub no_limits : (o : Option Limits) → is_some o ≡ false → o ≡ None
no_limits None e = refl
no_limits (Some l) e = absurd (cc e)

-- where a limit is passed there is one
pub limited_by : (l : Option Limits) (ys : Notes Numbered) (p : Passed Numbered) → passing l ys ≡ Some p → is_some l ≡ true
limited_by None ys p e = absurd (cc e)
limited_by (Some l) ys p e = refl
