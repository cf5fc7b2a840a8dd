-- The rules of a list of trees, one after another.
use Rattle.std.proofs.Common.{◌≡◌, refl, sym, ap, ◌∙◌, ℕ, zero, suc, ◌+◌, ◌≤◌, ◌<◌, Bool, true, false, List, [], ◌∷◌, ◌++◌, map, Option, Some, None, Ok, Err, if◌then◌else◌, arith}
use Rattle.tt_data.specs.Forest.{Forest, empty, leaf, group, size}
use Rattle.tt_data.specs.declared.edition.Edition.{Edition}
use Rattle.tt_data.specs.declared.leaf.Leaf.TheVariants as as_leaf
use Rattle.tt_data.specs.declared.span.SyntaxContext.{SyntaxContext}
use Rattle.mbe_rules.specs.Items as spec
use Rattle.mbe_rules.specs.Ops as ops
use Rattle.mbe_rules.specs.Parsed.{Parsed, ◌>>=◌}
use Rattle.mbe_rules.specs.Parsing.{Delimiting, no_rules, with_rule, delimited, rule_then, rule_shape, rule_of, rule_at, rules_with, rules_after, ending, macro_of}
use Rattle.mbe_rules.specs.Reading.{parts_read, rule_in, rules_before, after_delimiter}
use Rattle.mbe_rules.specs.Trees.{past, signs}
use Rattle.mbe_rules.specs.declared.errors.ParseError.{ParseError}
use Rattle.mbe_rules.specs.declared.macro_call_style.MacroCallStyle.{MacroCallStyle}
use Rattle.mbe_rules.specs.declared.macro_call_style.MacroCallStyle.TheVariants.{FnLike}
use Rattle.mbe_rules.specs.declared.rules.Rule.{Rule}
use Rattle.mbe_rules.proofs.ItemLemmas.{past-size}

append-nil : {A : Type 0} (xs : List A) → (xs ++ []) ≡ xs
append-nil [] = refl
append-nil (x ∷ xs) = ap (λ ys. x ∷ ys) (append-nil xs)

append-grouping : {A : Type 0} (xs ys zs : List A) → ((xs ++ ys) ++ zs) ≡ (xs ++ (ys ++ zs))
append-grouping [] ys zs = refl
append-grouping (x ∷ xs) ys zs = ap (λ us. x ∷ us) (append-grouping xs ys zs)

map-push : (rs : List Rule) (r : Rule) → map ops.rule_of (rs ++ (r ∷ [])) ≡ (map ops.rule_of rs ++ (ops.rule_of r ∷ []))
map-push [] r = refl
map-push (x ∷ rs) r = ap (λ us. ops.rule_of x ∷ us) (map-push rs r)

past-one : (n : ℕ) (f : Forest) → past 1 (past n f) ≡ past (suc n) f
past-one zero f = refl
past-one (suc n) empty = refl
past-one (suc n) (leaf l rest) = past-one n rest
past-one (suc n) (group d inner rest) = past-one n rest

past-shorter : (n : ℕ) (f : Forest) → (f ≡ empty → ⊥) → size (past (suc n) f) < size f
past-shorter n empty some = absurd (some refl)
past-shorter n (leaf l rest) some = let i = past-size n rest in omega arith
past-shorter n (group d inner rest) some = let i = past-size n rest in omega arith

delimiter-shorter : (between : Delimiting) (f g : Forest) → after_delimiter between f ≡ Some g → size g ≤ size f
delimiter-shorter between empty g h = let same : empty ≡ g = cc h in let s = ap size same in omega (arith, s)
delimiter-shorter between (leaf (as_leaf.Punct p) rest) g h = go (between.is_between p.char) h
  where
    go : (b : Bool) → (if b then Some rest else None) ≡ Some g → size g ≤ size (leaf (as_leaf.Punct p) rest)
    go true k = let same : rest ≡ g = cc k in let s = ap size same in omega (arith, s)
    go false k = absurd (cc k)
delimiter-shorter between (leaf (as_leaf.Ident i) rest) g h = absurd (cc h)
delimiter-shorter between (leaf (as_leaf.Literal l) rest) g h = absurd (cc h)
delimiter-shorter between (group d inner rest) g h = absurd (cc h)

-- a rule and the trees after it
abbrev with_rest : Forest → spec.Rule → Parsed (spec.Rule × Forest)
with_rest f r = Ok (r, f)

abbrev rest_of : Parsed (spec.Rule × Forest) → Forest
rest_of (Ok r) = r.1
rest_of (Err e) = empty

read-shorter : (n : ℕ) (f g : Forest) (r : spec.Rule) (p : Parsed spec.Rule) → (f ≡ empty → ⊥) →
    (p >>= with_rest (past (n + 4) f)) ≡ Ok (r, g) → size g < size f
read-shorter n f g r (Err e) some h = absurd (cc h)
read-shorter n f g r (Ok x) some h =
    let same : past (n + 4) f ≡ g = ap rest_of h in
    let count : suc (n + 3) ≡ n + 4 = omega arith in
    let less = past-shorter (n + 3) f some in
    let whole = ap (λ k. size (past k f)) count ∙ ap size same in omega (arith, less, whole)

module _ (edition : SyntaxContext → Edition) where
  rest-shorter : (f g : Forest) (r : spec.Rule) (shape : Parsed (MacroCallStyle × ℕ)) → (f ≡ empty → ⊥) →
      rule_in edition (parts_read f shape) ≡ Ok (r, g) → size g < size f
  rest-shorter f g r (Err e) some h = absurd (cc h)
  rest-shorter f g r (Ok s) some h = read-shorter s.1 f g r (rule_at edition f s) some h

  module _ (between : Delimiting) where
    skipped : (n : ℕ) (f : Forest) → rules_after edition between n f ≡ rules_after edition between 0 (past n f)
    skipped zero f = refl
    skipped (suc n) empty = refl
    skipped (suc n) (leaf l rest) = skipped n rest
    skipped (suc n) (group d inner rest) = skipped n rest

    -- the rules after one, where what comes between them is passed
    abbrev next_rules : Option Forest → spec.Rules
    next_rules None = no_rules (Some between.fault)
    next_rules (Some g) = rules_after edition between 0 g

    delimited-next : (f : Forest) → delimited between (signs f) (rules_after edition between 1 f) ≡ next_rules (after_delimiter between f)
    delimited-next empty = refl
    delimited-next (leaf (as_leaf.Punct p) rest) = go (between.is_between p.char)
      where
        go : (b : Bool) → (if b then rules_after edition between 0 rest else no_rules (Some between.fault)) ≡ next_rules (if b then Some rest else None)
        go true = refl
        go false = refl
    delimited-next (leaf (as_leaf.Ident i) rest) = refl
    delimited-next (leaf (as_leaf.Literal l) rest) = refl
    delimited-next (group d inner rest) = refl

    -- the rules of a list whose first rule is known
    abbrev by_first : Parsed (spec.Rule × Forest) → spec.Rules
    by_first (Err e) = no_rules (Some e)
    by_first (Ok r) = with_rule r.0 (next_rules (after_delimiter between r.1))

    first : (f tail : Forest) → ((n : ℕ) → past (suc n) f ≡ past n tail) → (shape : Parsed (MacroCallStyle × ℕ)) →
        rules_with edition between f (λ n. rules_after edition between n tail) shape ≡ by_first (rule_in edition (parts_read f shape))
    first f tail same (Err e) = refl
    first f tail same (Ok s) = go (rule_at edition f s)
      where
        passed : rules_after edition between (s.1 + 4) tail ≡ rules_after edition between 1 (past (s.1 + 4) f)
        passed =
            skipped (s.1 + 4) tail
            ∙ ap (rules_after edition between 0) (sym (same (s.1 + 4)) ∙ sym (past-one (s.1 + 4) f))
            ∙ sym (skipped 1 (past (s.1 + 4) f))

        go : (p : Parsed spec.Rule) →
            rule_then p (delimited between (signs (past (s.1 + 4) f)) (rules_after edition between (s.1 + 4) tail))
            ≡ by_first (p >>= with_rest (past (s.1 + 4) f))
        go (Err e) = refl
        go (Ok r) = ap (with_rule r) (ap (delimited between (signs (past (s.1 + 4) f))) passed ∙ delimited-next (past (s.1 + 4) f))

    rules-first : (f : Forest) → (f ≡ empty → ⊥) → rules_after edition between 0 f ≡ by_first (rule_in edition (parts_read f (rule_shape (signs f))))
    rules-first empty some = absurd (some refl)
    rules-first (leaf l rest) some = first (leaf l rest) rest (λ n. refl) (rule_shape (signs (leaf l rest)))
    rules-first (group d inner rest) some = first (group d inner rest) rest (λ n. refl) (rule_shape (signs (group d inner rest)))

    -- ---- a loop over the rules

    -- no tree is left
    pub at_end : (rs : List Rule) (trees rest : Forest) → rest ≡ empty →
        rules_after edition between 0 trees ≡ rules_before (map ops.rule_of rs) (rules_after edition between 0 rest) →
        record { list = map ops.rule_of rs; err = None } ≡ rules_after edition between 0 trees
    at_end rs trees rest none all =
        sym (all ∙ ap (λ f. rules_before (map ops.rule_of rs) (rules_after edition between 0 f)) none
        ∙ ap (λ (us : List spec.Rule). record { list = us; err = None }) (append-nil (map ops.rule_of rs)))

    -- a rule with a fault
    pub at_fault : (rs : List Rule) (e : ParseError) (trees rest : Forest) → (rest ≡ empty → ⊥) →
        rules_after edition between 0 trees ≡ rules_before (map ops.rule_of rs) (rules_after edition between 0 rest) →
        Err e ≡ rule_in edition (parts_read rest (rule_shape (signs rest))) →
        record { list = map ops.rule_of rs; err = Some e } ≡ rules_after edition between 0 trees
    at_fault rs e trees rest some all fault =
        sym (all ∙ ap (rules_before (map ops.rule_of rs)) (rules-first rest some ∙ ap by_first (sym fault))
        ∙ ap (λ (us : List spec.Rule). record { list = us; err = Some e }) (append-nil (map ops.rule_of rs)))

    -- a rule, and after it what may not stand there
    pub at_no_delimiter : (rs news : List Rule) (r : Rule) (e : ParseError) (trees rest behind : Forest) → (rest ≡ empty → ⊥) → news ≡ rs ++ (r ∷ []) →
        rules_after edition between 0 trees ≡ rules_before (map ops.rule_of rs) (rules_after edition between 0 rest) →
        Ok (ops.rule_of r, behind) ≡ rule_in edition (parts_read rest (rule_shape (signs rest))) →
        after_delimiter between behind ≡ None → e ≡ between.fault →
        record { list = map ops.rule_of news; err = Some e } ≡ rules_after edition between 0 trees
    at_no_delimiter rs news r e trees rest behind some pushed all read none told =
        ap (λ (x : ParseError). record { list = map ops.rule_of news; err = Some x }) told
        ∙ sym (all ∙ ap (rules_before (map ops.rule_of rs)) (rules-first rest some ∙ ap by_first (sym read) ∙ ap (λ o. with_rule (ops.rule_of r) (next_rules o)) none)
        ∙ ap (λ (us : List spec.Rule). record { list = us; err = Some between.fault }) (sym (map-push rs r) ∙ ap (map ops.rule_of) (sym pushed)))

    -- a rule, and the trees after what comes after it
    pub one-more : (rs news : List Rule) (r : Rule) (trees rest behind next : Forest) → (rest ≡ empty → ⊥) → news ≡ rs ++ (r ∷ []) →
        rules_after edition between 0 trees ≡ rules_before (map ops.rule_of rs) (rules_after edition between 0 rest) →
        Ok (ops.rule_of r, behind) ≡ rule_in edition (parts_read rest (rule_shape (signs rest))) →
        after_delimiter between behind ≡ Some next →
        (rules_after edition between 0 trees ≡ rules_before (map ops.rule_of news) (rules_after edition between 0 next)) × (size next < size rest)
    one-more rs news r trees rest behind next some pushed all read there = (
      all ∙ ap (rules_before (map ops.rule_of rs)) (rules-first rest some ∙ ap by_first (sym read) ∙ ap (λ o. with_rule (ops.rule_of r) (next_rules o)) there)
          ∙ ap (λ us. record { list = us; err = (rules_after edition between 0 next).err })
          (sym (append-grouping (map ops.rule_of rs) (ops.rule_of r ∷ []) (rules_after edition between 0 next).list)
          ∙ ap (λ us. us ++ (rules_after edition between 0 next).list) (sym (map-push rs r) ∙ ap (map ops.rule_of) (sym pushed))),
      let less = rest-shorter rest behind (ops.rule_of r) (rule_shape (signs rest)) some (sym read) in
          let fewer = delimiter-shorter between behind next there in omega (arith, less, fewer),
    )

-- ---- whole definitions

pub rules-read : (e edition : SyntaxContext → Edition) (between : Delimiting) (f walked : Forest) (r u : spec.Rules) → e ≡ edition → walked ≡ f →
    r ≡ rules_after e between 0 walked → u ≡ ending r → u ≡ ending (rules_after edition between 0 f)
rules-read e edition between f walked r u same is read ended =
    ended ∙ ap ending (read ∙ ap (λ x. rules_after x between 0 walked) same ∙ ap (rules_after edition between 0) is)

pub one_rule-read : (e edition : SyntaxContext → Edition) (p q walked_p walked_q : Forest) (r u : spec.Rules) → e ≡ edition → walked_p ≡ p → walked_q ≡ q →
    r ≡ rule_then (rule_of e FnLike walked_p walked_q) (no_rules None) → u ≡ ending r → u ≡ macro_of edition (Some p) q
one_rule-read e edition p q walked_p walked_q r u same is_p is_q read ended =
    ended ∙ ap ending (read ∙ ap (λ x. rule_then (rule_of x FnLike walked_p walked_q) (no_rules None)) same
    ∙ ap (λ x. rule_then (rule_of edition FnLike x walked_q) (no_rules None)) is_p
    ∙ ap (λ x. rule_then (rule_of edition FnLike p x) (no_rules None)) is_q)
