-- What one line of a sheet says.
use Rattle.std.specs.Prelude.{ℕ, zero, suc, Bool, true, false, cond, List, [], ◌∷◌, Some, None, Option, ◌==◌, nat_lt}
use Rattle.fields.specs.Numerals.{numeral}
use Rattle.fields.specs.Parts.{Parts, last, more}
use Rattle.grammar.specs.declared.Kind.{Kind}
use Rattle.grammar.specs.declared.Kind.TheVariants.{Size, Clash, Remark, End, Other}

-- the field at a place, counted from 0; past the last it is empty
abbrev pub field : Parts → ℕ → List ℕ
field (last f) zero = f
field (last f) (suc i) = []
field (more f p) zero = f
field (more f p) (suc i) = field p i

abbrev pub size_of : Parts → ℕ
size_of (last f) = 1
size_of (more f p) = suc (size_of p)

-- the byte that stands alone in a field
abbrev pub letter : List ℕ → ℕ
letter [] = 0
letter (c ∷ []) = c
letter (c ∷ d ∷ f) = 0

abbrev pub kind_of : List ℕ → Kind
kind_of f =
    cond (letter f == 115) Size (cond (letter f == 112) Clash (cond (letter f == 114) Remark (cond (letter f == 101) End Other)))

pub data Said : Type 0 where
  size : ℕ → ℕ → Said
  clash : ℕ → ℕ → Said
  remark : Said
  ended : Said
  wrong : ℕ → Said

-- two numbers and no more, or the first field that is wrong, missing or surplus
abbrev pub both : (ℕ → ℕ → Said) → Option ℕ → Option ℕ → Bool → Said
both say None second surplus = wrong 2
both say (Some a) None surplus = wrong 3
both say (Some a) (Some b) true = wrong 4
both say (Some a) (Some b) false = say a b

-- a size line stands first and nowhere else
abbrev pub said : Bool → Kind → Parts → Said
said true Size p = both size (numeral (field p 1)) (numeral (field p 2)) (nat_lt 3 (size_of p))
said true Clash p = wrong 1
said true Remark p = wrong 1
said true End p = wrong 1
said true Other p = wrong 1
said false Size p = wrong 1
said false Clash p = both clash (numeral (field p 1)) (numeral (field p 2)) (nat_lt 3 (size_of p))
said false Remark p = remark
said false End p = cond (nat_lt 1 (size_of p)) (wrong 2) ended
said false Other p = wrong 1

-- what the fields of a line say, in the first line or a later one
unfoldable pub says : Bool → Parts → Said
says first p = said first (kind_of (field p 0)) p
