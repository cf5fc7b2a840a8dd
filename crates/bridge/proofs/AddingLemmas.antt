-- Trees appended one after another, and the state after a refused call.
use Rattle.std.proofs.Common.{◌≡◌, ℕ, List, ◌+◌, ◌≤◌, inl, inr, ap, ◌∙◌, arith}
use Rattle.std.specs.Prelude.{Result, Ok, Err, OnOk, IfOk, IfErr}
use Rattle.std.specs.Result.{IsErrAnd}
use Rattle.tt.proofs.Limits.{count-extended}
use Rattle.tt.specs.Building.{Building, closed, count_of, extended, opened}
use Rattle.tt_data.proofs.ForestLemmas.{joined_assoc, size-joined}
use Rattle.tt_data.specs.Forest.{Forest, empty, group, joined, size}
use Rattle.tt_data.specs.declared.delimiter.DelimiterKind.{DelimiterKind}
use Rattle.tt_data.specs.fault.TtFault.{TtFault}
use Rattle.tt_data.specs.declared.span.Span.{Span}
use Rattle.rustc_lexer.specs.declared.token.DocStyle.{DocStyle}
use Rattle.bridge.specs.ReadSteps.{IsRefusal, doc_puncts, doc_trees}

extended_twice : (b : Building) (f g : Forest) → extended (extended b f) g ≡ extended b (joined f g)
extended_twice b f g = ap (λ h. record b { here = h }) (joined_assoc b.here f g)

-- trees, and then more trees
pub extends_then : (old mid new : Building) (f g : Forest) → mid ≡ extended old f → new ≡ extended mid g → new ≡ extended old (joined f g)
extends_then old mid new f g e h = h ∙ ap (λ b. extended b g) e ∙ extended_twice old f g

pub ok_then : {A : Type 0} (r : Result A TtFault) (old mid new : Building) (f g : Forest) → mid ≡ extended old f
    → OnOk r (new ≡ extended mid g) → OnOk r (new ≡ extended old (joined f g))
ok_then (Ok a) old mid new f g e h = extends_then old mid new f g e h
ok_then (Err x) old mid new f g e h = h

-- a group that is opened, filled and closed is one tree more
pub closed_group : {A : Type 0} (r : Result A TtFault) (old begun inner new : Building) (kind : DelimiterKind) (begin end : Span) (f : Forest)
    → begun ≡ opened old kind begin → inner ≡ extended begun f → OnOk r (new ≡ closed inner end)
    → OnOk r (new ≡ extended old (group (record { open_span = begin; close_span = end; kind = kind }) f empty))
closed_group (Ok a) old begun inner new kind begin end f e h c = c ∙ ap (λ b. closed b end) (h ∙ ap (λ b. extended b f) e)
closed_group (Err x) old begun inner new kind begin end f e h c = c

-- no room for some tokens, so none for more
pub refused_more : {m n : ℕ} (e : TtFault) → m ≤ n → IsRefusal m e → IsRefusal n e
refused_more e le (inl is) = inl is
refused_more e le (inr (is, many)) = inr (is, omega (arith, le, many))

-- where trees were put in, no room for more trees is no room for both
pub refused_at : (e : TtFault) (old mid : Building) (f : Forest) (m n : ℕ) → mid ≡ extended old f → size f + m ≤ n
    → IsRefusal (count_of mid + m) e → IsRefusal (count_of old + n) e
refused_at e old mid f m n is le h = refused_more e (omega (arith, le, ap count_of is, count-extended old f)) h

-- the same for trees in a group that was opened
pub refused_inside : (e : TtFault) (old mid begun : Building) (f : Forest) (kind : DelimiterKind) (span : Span) (m n : ℕ) → mid ≡ extended old f
    → begun ≡ opened mid kind span → size f + 1 + m ≤ n → IsRefusal (count_of begun + m) e → IsRefusal (count_of old + n) e
refused_inside e old mid begun f kind span m n is begins le h =
    refused_more e (omega (arith, le, ap count_of begins, ap count_of is, count-extended old f)) h

-- an error that is handed on
pub handed_on : {A : Type 0} (r : Result A TtFault) (came : TtFault) (P : TtFault → Type 0) → IsErrAnd r (λ e. e ≡ came) → P came → IfErr r P
handed_on (Ok a) came P is p = absurd is
handed_on (Err x) came P is p = rw is p

-- the same at a call whose error is passed on as it is
pub passed_on : {A : Type 0} (r : Result A TtFault) (P Q : TtFault → Type 0) → ((e : TtFault) → P e → Q e) → IfErr r P → IfErr r Q
passed_on (Ok a) P Q f h = h
passed_on (Err x) P Q f h = f x h

pub doc_size : (style : DocStyle) (text : List ℕ) (span : Span) → size (doc_trees style text span) ≡ size (doc_puncts style span) + 4
doc_size style text span = size-joined (doc_puncts style span) _

-- a value that is passed on as it is
pub no_value : {A : Type 0} (r : Result A TtFault) (P : TtFault → Type 0) (Q : A → Type 0) → IsErrAnd r P → IfOk r Q
no_value (Ok a) P Q is = absurd is
no_value (Err x) P Q is = tt
