-- The words of types, and the colon.
use Rattle.std.proofs.Common.{cond, nat_eq, subst, sym, ap, ◌∙◌, ◌≡◌, ◌≢◌, ℕ, ◌+◌, true, false, inl, inr, List, [], ◌∷◌, map, Some, None, Result, Ok, Err, refl, arith}
use Rattle.std.proofs.Math.Bool.{Bool-set}
use Rattle.std.proofs.lemmas.Bool.{cases_Bool}
use Rattle.std.proofs.lemmas.Slice.Eq.{bytes_eq-Decides}
use Rattle.std.specs.List.{list_any, list_all}
use Rattle.std.specs.Str.{bytes_eq}
use Rattle.values.specs.Kinds.{is_type, letter_of}
use Rattle.values.specs.Sizes.{bytes}
use Rattle.std.specs.Result.{result_ok, is_ok}
use Rattle.texts.proofs.Options.{the_same}
use Rattle.values.specs.Types.{word_of, TypeWithTheWordOrNone}
use Rattle.values.specs.declared.unknown.Unknown.{Unknown}
use Rattle.values.specs.declared.kinds.Kind.{Kind}
use Rattle.values.specs.declared.kinds.Kind.TheVariants.{Unsigned, Signed, Float, Address}
use Rattle.values.specs.declared.sizes.Size.{Size}
use Rattle.values.specs.declared.sizes.Size.TheVariants.{One, Two, Four, Eight}
use Rattle.values.specs.declared.value_type.ValueType.{ValueType}
use Rattle.signatures.specs.Signatures.{colon}
use Rattle.signatures.specs.Faults.{is_type_word, is_colon}

abbrev type_with : (k : Kind) (w : Size) → is_type k w ≡ true → ValueType
type_with k w h = record { kind = k; width = w; one_of_the_eleven = h }

-- in the order of their words
abbrev value_types : List ValueType
value_types =
    type_with Unsigned One refl ∷ type_with Unsigned Two refl ∷ type_with Unsigned Four refl ∷ type_with Unsigned Eight refl
    ∷ type_with Signed One refl ∷ type_with Signed Two refl ∷ type_with Signed Four refl ∷ type_with Signed Eight refl
    ∷ type_with Float Four refl ∷ type_with Float Eight refl ∷ type_with Address Four refl ∷ []

among : (ts : List ValueType) (w : List ℕ) → list_any (bytes_eq w) (map word_of ts) ≡ true → (t : ValueType) × (word_of t ≡ w)
among [] w h = grind (arith, h)
among (t ∷ ts) w h =
    elim (cases_Bool (bytes_eq w (word_of t))) [
      | inl y ↦ (t, grind (arith, bytes_eq-Decides w (word_of t), y))
      | inr n ↦ among ts w (rw n at h)
    ]

pub type_of_its_word : (w : List ℕ) → is_type_word w ≡ true → (t : ValueType) × (word_of t ≡ w)
type_of_its_word w h = among value_types w h

pub word_of_its_type : (t : ValueType) → is_type_word (word_of t) ≡ true
word_of_its_type t = word t.kind t.width t.one_of_the_eleven
  where
    word : (k : Kind) (w : Size) (h : is_type k w ≡ true) → is_type_word (word_of (type_with k w h)) ≡ true
    word Unsigned One h = refl
    word Unsigned Two h = refl
    word Unsigned Four h = refl
    word Unsigned Eight h = refl
    word Signed One h = refl
    word Signed Two h = refl
    word Signed Four h = refl
    word Signed Eight h = refl
    word Float Four h = refl
    word Float Eight h = refl
    word Address Four h = refl
    word Float One h = grind (arith, h)
    word Float Two h = grind (arith, h)
    word Address One h = grind (arith, h)
    word Address Two h = grind (arith, h)
    word Address Eight h = grind (arith, h)

pub no_type_word : (w : List ℕ) → ((t : ValueType) → word_of t ≢ w) → is_type_word w ≡ false
no_type_word w none =
    elim (cases_Bool (is_type_word w)) [
      | inl y ↦ let t = type_of_its_word w y in absurd (none t.0 t.1)
      | inr n ↦ n
    ]

pub types_of_their_words : (ws : List (List ℕ)) → list_all is_type_word ws ≡ true → (ts : List ValueType) × (map word_of ts ≡ ws)
types_of_their_words [] h = ([], refl)
types_of_their_words (w ∷ ws) h =
    let here : is_type_word w ≡ true = grind (arith, h) in
    let rest : list_all is_type_word ws ≡ true = grind (arith, h) in
    let t = type_of_its_word w here in
    let ts = types_of_their_words ws rest in
    (t.0 ∷ ts.0, rw (t.1, ts.1) refl)

pub no_colon : (t : ValueType) → is_colon (word_of t) ≡ false
no_colon t = elim t.kind as (λ k. bytes_eq (letter_of k ∷ (48 + bytes t.width) ∷ []) colon ≡ false) [ Unsigned ↦ refl | Signed ↦ refl | Float ↦ refl | Address ↦ refl ]

pub colon_itself : (w : List ℕ) → is_colon w ≡ true → w ≡ colon
colon_itself w h = grind (arith, bytes_eq-Decides w colon, h)

-- what is read from a word
pub that_type : (w : List ℕ) (r : Result ValueType Unknown) (t : ValueType) → TypeWithTheWordOrNone w r → result_ok r ≡ Some t → word_of t ≡ w
that_type w (Ok u) t h e = ap word_of (sym (the_same u t e)) ∙ h
that_type w (Err n) t h e = grind (arith, e)

pub no_type : (w : List ℕ) (r : Result ValueType Unknown) → TypeWithTheWordOrNone w r → result_ok r ≡ None → is_type_word w ≡ false
no_type w (Ok u) h e = grind (arith, e)
no_type w (Err n) h e = no_type_word w h

pub whether_a_type : (w : List ℕ) (r : Result ValueType Unknown) → TypeWithTheWordOrNone w r → is_ok r ≡ is_type_word w
whether_a_type w (Ok u) h = sym (ap is_type_word (sym h) ∙ word_of_its_type u)
whether_a_type w (Err n) h = sym (no_type_word w h)

-- a word tells a type

abbrev kind_by : ℕ → Kind
kind_by c = cond (nat_eq c 117) Unsigned (cond (nat_eq c 115) Signed (cond (nat_eq c 102) Float Address))

abbrev size_by : ℕ → Size
size_by c = cond (nat_eq c 49) One (cond (nat_eq c 50) Two (cond (nat_eq c 52) Four Eight))

kind_of_its_letter : (k : Kind) → kind_by (letter_of k) ≡ k
kind_of_its_letter Unsigned = refl
kind_of_its_letter Signed = refl
kind_of_its_letter Float = refl
kind_of_its_letter Address = refl

size_of_its_digit : (w : Size) → size_by (48 + bytes w) ≡ w
size_of_its_digit One = refl
size_of_its_digit Two = refl
size_of_its_digit Four = refl
size_of_its_digit Eight = refl

one_type : (k : Kind) (w : Size) (h : is_type k w ≡ true) (l : Kind) → k ≡ l → (v : Size) → w ≡ v → (i : is_type l v ≡ true) → type_with k w h ≡ type_with l v i
one_type k w h l e v d i =
    subst (λ l. (i : is_type l v ≡ true) → type_with k w h ≡ type_with l v i) e
    (subst (λ v. (i : is_type k v ≡ true) → type_with k w h ≡ type_with k v i) d (λ i. ap (type_with k w) (Bool-set _ _ h i))) i

type_told : (t u : ValueType) → word_of t ≡ word_of u → t ≡ u
type_told t u e =
    let letters : letter_of t.kind ≡ letter_of u.kind = cc in
    let digits : 48 + bytes t.width ≡ 48 + bytes u.width = cc in
    one_type t.kind t.width t.one_of_the_eleven
    u.kind (sym (kind_of_its_letter t.kind) ∙ (ap kind_by letters ∙ kind_of_its_letter u.kind))
    u.width (sym (size_of_its_digit t.width) ∙ (ap size_by digits ∙ size_of_its_digit u.width)) u.one_of_the_eleven

pub types_told : (ts us : List ValueType) → map word_of ts ≡ map word_of us → ts ≡ us
types_told [] [] e = refl
types_told [] (u ∷ us) e = grind (arith, e)
types_told (t ∷ ts) [] e = grind (arith, e)
types_told (t ∷ ts) (u ∷ us) e =
    let first : word_of t ≡ word_of u = cc in
    let rest : map word_of ts ≡ map word_of us = cc in
    rw (type_told t u first, types_told ts us rest) refl
