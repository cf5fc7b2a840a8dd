-- Worked examples of limits, by computation, with the definitions of `Rows`.
use Rattle.std.proofs.Common.{◌≡◌, ℕ, List, [], ◌∷◌, map, Option, None, refl}
use Rattle.std.specs.Prelude.{codes}
use Prim.Native.String.{String}
use Rattle.expander_model.specs.Definitions.{Definition, nearest}
use Rattle.expander_model.specs.Expansion.{Outcome}
use Rattle.expander_model.specs.Meaning.{definitions_after}
use Rattle.expander_model.specs.Pieces.{pieces}
use Rattle.expander_model.specs.declared.fault.FaultKind.TheVariants.{TooLarge}
use Rattle.expander_model.specs.declared.scope_rules.ScopeRules.TheVariants.{Rust}
use Rattle.expander_model.specs.Limits.{bounded}
use Rattle.expander_model.specs.declared.scope_rules.Standing.TheVariants.{Top}
use Rattle.expander_model.specs.Scoping.{scoped, without_locals}
use Rattle.textual_scope.proofs.Lines.{trees, words, step_word}
use Rattle.textual_scope.proofs.Rows.{by, toy, with_items}

abbrev scope_of : String → List ℕ → Option Definition
scope_of before = nearest (definitions_after [] (pieces (trees before)))

-- the second line in the scope of the first, by these limits, with three levels
abbrev limited_to : ℕ → ℕ → String → String → Outcome Definition
limited_to calls tokens before line =
    (bounded (by Rust) (toy (by Rust)) (λ d. d) (scope_of before) (record { calls = calls; tokens = tokens }) 3
    (without_locals Top None) (trees line)).outcome

-- the same without limits
abbrev unlimited : String → String → Outcome Definition
unlimited before line = (scoped (by Rust) (toy (by Rust)) (λ d. d) (scope_of before) 3 (without_locals Top None) (trees line)).outcome

abbrev printed : Outcome Definition → List (List ℕ)
printed o = map (λ s. step_word s.step) o.steps

abbrev names : Outcome Definition → List (List ℕ)
names o = map (λ find. find.0) o.finds

-- six tokens, twelve and twenty-four of seven calls in all
doubled : limited_to 7 42 "macro_rules ! d { d ! { } d ! { } }" "d ! { }" ≡ unlimited "macro_rules ! d { d ! { } d ! { } }" "d ! { }"
doubled = refl

-- a call or a token less: the call stays, with one fault
one_call_less : printed (limited_to 6 42 "macro_rules ! d { d ! { } d ! { } }" "{ d ! { } }") ≡ words "{ d ! { } }"
one_call_less = refl

one_token_less : printed (limited_to 7 41 "macro_rules ! d { d ! { } d ! { } }" "{ d ! { } }") ≡ words "{ d ! { } }"
one_token_less = refl

one_fault : map (λ x. x.0) (limited_to 6 42 "macro_rules ! d { d ! { } d ! { } }" "d ! { }").faults ≡ TooLarge ∷ []
one_fault = refl

-- the third result passes the limit; its call was looked up before
look_ups_so_far : names (limited_to 2 42 "macro_rules ! d { d ! { } d ! { } }" "d ! { }") ≡ codes "d" ∷ codes "d" ∷ codes "d" ∷ []
look_ups_so_far = refl

-- each outermost call has its own limits, and the outermost call counts itself
each_its_own : limited_to 1 1 "macro_rules ! m { 1 }" "m ! { } m ! { } { m ! ( ) ; }" ≡ unlimited "macro_rules ! m { 1 }" "m ! { } m ! { } { m ! ( ) ; }"
each_its_own = refl

no_call_at_all : printed (limited_to 0 1 "macro_rules ! m { 1 }" "m ! { }") ≡ words "m ! { }"
no_call_at_all = refl

-- a `;` goes with a call that is replaced, and stays behind one that makes too much
abbrev items_by : ℕ → Outcome Definition
items_by calls =
    (bounded with_items (toy with_items) (λ d. d) (scope_of "macro_rules ! m { 1 }") (record { calls = calls; tokens = 1 }) 3
    (without_locals Top None) (trees "m ! ( ) ;")).outcome

end_goes : printed (items_by 1) ≡ words "1"
end_goes = refl

end_stays : printed (items_by 0) ≡ words "m ! ( ) ;"
end_stays = refl

-- the argument of a call that makes too much is not searched
argument_stays : printed (limited_to 0 9 "macro_rules ! m { 1 }" "m ! { m ! { } }") ≡ words "m ! { m ! { } }"
argument_stays = refl

-- a call that nothing fits, or that nothing is found for, counts for nothing
failed_calls_count_nothing : limited_to 1 8 "macro_rules ! m { z ! { } u ! { } } macro_rules ! z { % }" "m ! { }"
    ≡ unlimited "macro_rules ! m { z ! { } u ! { } } macro_rules ! z { % }" "m ! { }"
failed_calls_count_nothing = refl

-- what a list defines counts as well, and is no look-up
definitions_of_lists : names (limited_to 1 30 "macro_rules ! k { { macro_rules ! m { 1 } m ! { } } }" "k ! { }") ≡ codes "k" ∷ []
definitions_of_lists = refl
