-- Each type is in the list of all, once.
use Rattle.std.proofs.Common.{◌≡◌, ◌≢◌, ℕ, zero, suc, ◌<◌, true, List, ◌∷◌, Contains, AllPairs, slice_index_or, refl, sym, ap, ◌∙◌, arith}
use mathlib.Core.Bool.{Bool-set}
use Rattle.values.specs.Kinds.{is_type}
use Rattle.values.specs.Types.{all_types, type_of}
use Rattle.values.specs.declared.kinds.Kind.{Kind}
use Rattle.values.specs.declared.kinds.Kind.TheVariants.{Unsigned, Signed, Float, Address}
use Rattle.values.specs.declared.sizes.Size.{Size}
use Rattle.values.specs.declared.sizes.Size.TheVariants.{One, Two, Four, Eight}
use Rattle.values.specs.declared.value_type.ValueType.{ValueType}

-- kind and width make a type, whatever shows that it exists
pub same_type : (k : Kind) (w : Size) (a b : is_type k w ≡ true) → type_of k w a ≡ type_of k w b
same_type k w a b = ap (type_of k w) (Bool-set (is_type k w) true a b)

pub same_cons : (t u : ValueType) (ts us : List ValueType) → t ≡ u → ts ≡ us → t ∷ ts ≡ u ∷ us
same_cons t u ts us d e = cc

-- the index of a type in the list; 11 where there is none
abbrev rank : Kind → Size → ℕ
rank Unsigned One = 0
rank Unsigned Two = 1
rank Unsigned Four = 2
rank Unsigned Eight = 3
rank Signed One = 4
rank Signed Two = 5
rank Signed Four = 6
rank Signed Eight = 7
rank Float One = 11
rank Float Two = 11
rank Float Four = 8
rank Float Eight = 9
rank Address One = 11
rank Address Two = 11
rank Address Four = 10
rank Address Eight = 11

at_its_rank : (k : Kind) (w : Size) (e : is_type k w ≡ true) → Contains all_types (type_of k w e)
at_its_rank Unsigned One e = (0, omega arith, same_type Unsigned One refl e)
at_its_rank Unsigned Two e = (1, omega arith, same_type Unsigned Two refl e)
at_its_rank Unsigned Four e = (2, omega arith, same_type Unsigned Four refl e)
at_its_rank Unsigned Eight e = (3, omega arith, same_type Unsigned Eight refl e)
at_its_rank Signed One e = (4, omega arith, same_type Signed One refl e)
at_its_rank Signed Two e = (5, omega arith, same_type Signed Two refl e)
at_its_rank Signed Four e = (6, omega arith, same_type Signed Four refl e)
at_its_rank Signed Eight e = (7, omega arith, same_type Signed Eight refl e)
at_its_rank Float One e = cc
at_its_rank Float Two e = cc
at_its_rank Float Four e = (8, omega arith, same_type Float Four refl e)
at_its_rank Float Eight e = (9, omega arith, same_type Float Eight refl e)
at_its_rank Address One e = cc
at_its_rank Address Two e = cc
at_its_rank Address Four e = (10, omega arith, same_type Address Four refl e)
at_its_rank Address Eight e = cc

pub among : (t : ValueType) → Contains all_types t
among t = at_its_rank t.kind t.width t.one_of_the_eleven

abbrev rank_of : ValueType → ℕ
rank_of t = rank t.kind t.width

rank_at : (i : ℕ) (d : ValueType) → i < 11 → rank_of (slice_index_or all_types i d) ≡ i
rank_at zero d l = refl
rank_at (suc zero) d l = refl
rank_at (suc (suc zero)) d l = refl
rank_at (suc (suc (suc zero))) d l = refl
rank_at (suc (suc (suc (suc zero)))) d l = refl
rank_at (suc (suc (suc (suc (suc zero))))) d l = refl
rank_at (suc (suc (suc (suc (suc (suc zero)))))) d l = refl
rank_at (suc (suc (suc (suc (suc (suc (suc zero))))))) d l = refl
rank_at (suc (suc (suc (suc (suc (suc (suc (suc zero)))))))) d l = refl
rank_at (suc (suc (suc (suc (suc (suc (suc (suc (suc zero))))))))) d l = refl
rank_at (suc (suc (suc (suc (suc (suc (suc (suc (suc (suc zero)))))))))) d l = refl
rank_at (suc (suc (suc (suc (suc (suc (suc (suc (suc (suc (suc i))))))))))) d l = absurd (omega arith)

pub none_twice : AllPairs (λ (a b : ValueType). a ≢ b) all_types
none_twice i j d l m = λ e.
    let same : i ≡ j = sym (rank_at i d (omega arith)) ∙ (ap rank_of e ∙ rank_at j d m) in
    omega arith
