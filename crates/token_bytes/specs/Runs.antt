-- Runs of records, and the tokens that they decode to.
use Rattle.std.specs.Prelude.{◌≡◌, ℕ, zero, suc, ◌+◌, ⊤, List, [], ◌∷◌, drop, length, Option, Some, None, option_map}
use denote.Bor.{Bor}
use Rattle.std.specs.Coded.{×_prop, Unit-prop}
use Rattle.std.proofs.Props.{props}
use Rattle.token_bytes.specs.Records.{BeginsWithToken, Sort, Decodes, first_size, of_group, of_ident, of_literal, of_punct}
use Rattle.token_bytes.specs.declared.stored.Stored.{Stored}

-- the bytes after so many records
abbrev pub past : ℕ → List ℕ → List ℕ
past zero bytes = bytes
past (suc n) bytes = past n (drop (first_size bytes) bytes)

-- the bytes of so many records
abbrev pub run_size : ℕ → List ℕ → ℕ
run_size zero bytes = 0
run_size (suc n) bytes = first_size bytes + run_size n (drop (first_size bytes) bytes)

-- so many records are there whole, and each decodes to a token
abbrev pub AreDecoded : ℕ → List (List ℕ) → List ℕ → Type 0
AreDecoded zero table bytes = ⊤
AreDecoded (suc n) table bytes =
    BeginsWithToken table bytes × AreDecoded n table (drop (first_size bytes) bytes)

-- the records from a byte on, and the table: none where nothing is stored
abbrev pub bytes_from : ℕ → Option Stored → List ℕ
bytes_from at None = []
bytes_from at (Some s) = drop at s.records

abbrev pub table_in : Option Stored → List (List ℕ)
table_in None = []
table_in (Some s) = s.texts.texts.items

-- so many records are there from a byte on
abbrev pub IsRun : Option Stored → ℕ → ℕ → Type 0
IsRun stored at count = AreDecoded count (table_in stored) (bytes_from at stored)

-- bytes at which each 64th record begins, from the one after n records on
abbrev pub BeginAt : ℕ → List ℕ → List ℕ → Type 0
BeginAt n [] bytes = ⊤
BeginAt n (byte ∷ more) bytes = (byte ≡ run_size n bytes) × BeginAt (n + 64) more bytes

-- so many records come before a byte, and those that are noted begin where it says
abbrev pub IsAt : Option Stored → ℕ → ℕ → Type 0
IsAt None at before = before ≡ 0
IsAt (Some s) at before = (at ≡ run_size before s.records) × BeginAt 64 s.starts.items s.records

-- the bytes of all that is stored
abbrev pub stored_size : Option Stored → ℕ
stored_size None = 0
stored_size (Some s) = length s.records

Decodes-prop : (s : Sort) (table : List (List ℕ)) (body : List ℕ) → IsProp (Decodes s table body)
Decodes-prop (of_group k) table body = Unit-prop
Decodes-prop (of_punct k) table body = Prim.hlevel props
Decodes-prop (of_ident r) table body = Prim.hlevel props
Decodes-prop of_literal table body = Prim.hlevel props

pub AreDecoded-prop : (n : ℕ) (table : List (List ℕ)) (bytes : List ℕ)
    → IsProp (AreDecoded n table bytes)
AreDecoded-prop zero table bytes = Unit-prop
AreDecoded-prop (suc n) table bytes = ×_prop (Prim.hlevel (Decodes-prop, props))
    (AreDecoded-prop n table (drop (first_size bytes) bytes))

pub IsRun-prop : (stored : Option Stored) (at count : ℕ) → IsProp (IsRun stored at count)
IsRun-prop stored at count = AreDecoded-prop count (table_in stored) (bytes_from at stored)

-- the same of what is lent
abbrev pub IsLentRun : Option (Bor Stored) → ℕ → ℕ → Type 0
IsLentRun lent at count = IsRun (option_map (λ s. s.now) lent) at count

pub IsLentRun-prop : (lent : Option (Bor Stored)) (at count : ℕ) → IsProp (IsLentRun lent at count)
IsLentRun-prop lent at count = IsRun-prop (option_map (λ s. s.now) lent) at count

BeginAt-prop : (n : ℕ) (starts bytes : List ℕ) → IsProp (BeginAt n starts bytes)
BeginAt-prop n [] bytes = Unit-prop
BeginAt-prop n (byte ∷ more) bytes =
    ×_prop (Prim.hlevel props) (BeginAt-prop (n + 64) more bytes)

pub IsAt-prop : (stored : Option Stored) (at before : ℕ) → IsProp (IsAt stored at before)
IsAt-prop None at before = Prim.hlevel props
IsAt-prop (Some s) at before =
    ×_prop (Prim.hlevel props) (BeginAt-prop 64 s.starts.items s.records)

-- the same of what is lent
abbrev pub IsLentAt : Option (Bor Stored) → ℕ → ℕ → Type 0
IsLentAt lent at before = IsAt (option_map (λ s. s.now) lent) at before

pub IsLentAt-prop : (lent : Option (Bor Stored)) (at before : ℕ) → IsProp (IsLentAt lent at before)
IsLentAt-prop lent at before = IsAt-prop (option_map (λ s. s.now) lent) at before
