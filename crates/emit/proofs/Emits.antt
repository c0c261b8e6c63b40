-- Code that is written piece after piece.
use Rattle.std.proofs.Common.{◌≡◌, ℕ, ◌+◌, ◌*◌, ◌<◌, ◌≤◌, List, [], ◌∷◌, ◌++◌, map, length, get_or, take, drop, set, sym, refl, ap, ◌∙◌, add-zero, zero-add, arith}
use Rattle.std.proofs.lemmas.List.{drop_more, at_drop_all, take-append-drop, length-set, take_more_set, drop-set-lt, append_assoc}
use Rattle.machine.specs.declared.Instruction.{Instruction}
use Rattle.place.specs.Holdings.{Holding}
use Rattle.delivery.specs.Code.{each_home, each_word}
use Rattle.allocation.specs.States.{holding}
use Rattle.allocation.specs.declared.held.Held.{Held}
use Rattle.emit.specs.declared.records.Records.{Records}
use Rattle.emit.specs.Emitting.{Code, code_of, emit, code_in, Appends}

pub emit_append : (xs ys : List Instruction) (c : Code) → emit c (xs ++ ys) ≡ emit (emit c xs) ys
emit_append [] ys c = refl
emit_append (x ∷ xs) ys c = emit_append xs ys (record { list = set c.list c.at x; at = c.at + 1 })

pub emit_at : (xs : List Instruction) (c : Code) → (emit c xs).at ≡ c.at + length xs
emit_at [] c = sym (add-zero c.at)
emit_at (x ∷ xs) c = omega (arith, emit_at xs (record { list = set c.list c.at x; at = c.at + 1 }))

-- one piece of code after another
pub appends_then : (xs ys : List Instruction) (a b c : Records) → Appends xs a b → Appends ys b c → Appends (xs ++ ys) a c
appends_then xs ys a b c p q = record { same_list = q.same_list ∙ p.same_list; code = q.code ∙ ap (λ (x : Code). emit x ys) p.code ∙ sym (emit_append xs ys (code_in a)) }

pub appends_same : (xs ys : List Instruction) (a b : Records) → xs ≡ ys → Appends xs a b → Appends ys a b
appends_same xs ys a b e p = record { same_list = p.same_list; code = p.code ∙ ap (emit (code_in a)) e }

-- one record, and code after it
pub appends_put : (x y : Instruction) (ys : List Instruction) (a b c : Records) → y ≡ x → Appends (y ∷ []) a b → Appends ys b c → Appends (x ∷ ys) a c
appends_put x y ys a b c e p q = appends_then (x ∷ []) ys a b c (appends_same (y ∷ []) (x ∷ []) a b (ap (λ (z : Instruction). z ∷ []) e) p) q

-- a turn of a loop over places and their homes
pub homes_more : (g : Holding → ℕ → List Instruction) (c d : Code) (hs : List Held) (i home : ℕ) (x : Held) → i < length hs → x ≡ get_or hs i x → d ≡ emit c (g (holding x) home) → emit d (each_home g (map holding (drop (i + 1) hs)) (home + 8)) ≡ emit c (each_home g (map holding (drop i hs)) home)
homes_more g c d hs i home x h e p =
    let rest : List Instruction = each_home g (map holding (drop (i + 1) hs)) (home + 8) in
    let first : drop i hs ≡ x ∷ drop (i + 1) hs = drop_more hs i x h ∙ ap (λ (y : Held). y ∷ drop (i + 1) hs) (sym e) in
    ap (λ (y : Code). emit y rest) p ∙ (sym (emit_append (g (holding x) home) rest c) ∙ ap (λ (l : List Held). emit c (each_home g (map holding l) home)) (sym first))

-- a turn of a loop over registers and their words
words_more : (g : ℕ → ℕ → Instruction) (c d : Code) (rs : List ℕ) (i word r : ℕ) (x : Instruction) → i < length rs → r ≡ get_or rs i r → x ≡ g r word → d ≡ emit c (x ∷ []) → emit d (each_word g (drop (i + 1) rs) (word + 4)) ≡ emit c (each_word g (drop i rs) word)
words_more g c d rs i word r x h e q p =
    let rest : List Instruction = each_word g (drop (i + 1) rs) (word + 4) in
    let first : drop i rs ≡ r ∷ drop (i + 1) rs = drop_more rs i r h ∙ ap (λ (y : ℕ). y ∷ drop (i + 1) rs) (sym e) in
    ap (λ (y : Code). emit y rest) p ∙ (ap (λ (y : Instruction). emit c (y ∷ rest)) q ∙ ap (λ (l : List ℕ). emit c (each_word g l word)) (sym first))

-- a turn of a loop over records
records_more : (c d : Code) (xs : List Instruction) (i : ℕ) (x : Instruction) → i < length xs → x ≡ get_or xs i x → d ≡ emit c (x ∷ []) → emit d (drop (i + 1) xs) ≡ emit c (drop i xs)
records_more c d xs i x h e p =
    let first : drop i xs ≡ x ∷ drop (i + 1) xs = drop_more xs i x h ∙ ap (λ (y : Instruction). y ∷ drop (i + 1) xs) (sym e) in
    ap (λ (y : Code). emit y (drop (i + 1) xs)) p ∙ ap (emit c) (sym first)

-- in a loop that writes code, with so many records at most behind it: the rest, written from here, gives the whole
pub record Left (whole : List Instruction) (before : Records) (most : ℕ) (rest : List Instruction) (now : Records) : Type 0 where
  pub same_list : now.list.ghost_name ≡ before.list.ghost_name
  pub gives_the_whole : emit (code_in now) rest ≡ emit (code_in before) whole
  pub few : now.len ≤ before.len + most

pub one_record : (x : Instruction) (now next : Records) → Appends (x ∷ []) now next → next.len ≤ now.len + 1
one_record x now next p = let end : next.len ≡ now.len + 1 = ap (λ (c : Code). c.at) p.code in omega arith

module _ (before : Records) (i : ℕ) (now : Records) where
  pub homes_left : (g : Holding → ℕ → List Instruction) (hs : List Held) (h : ℕ) → Left (each_home g (map holding hs) h) before (4 * i) (each_home g (map holding (drop i hs)) (h + 8 * i)) now → (x : Held) (next : Records) → i < length hs → x ≡ get_or hs i x → Appends (g (holding x) (h + 8 * i)) now next → next.len ≤ now.len + 4 → Left (each_home g (map holding hs) h) before (4 * (i + 1)) (each_home g (map holding (drop (i + 1) hs)) (h + 8 * (i + 1))) next
  homes_left g hs h left x next l e p few =
      let home : h + 8 * (i + 1) ≡ h + 8 * i + 8 = omega arith in
      record {
        same_list = p.same_list ∙ left.same_list;
        gives_the_whole = rw home (homes_more g (code_in now) (code_in next) hs i (h + 8 * i) x l e p.code ∙ left.gives_the_whole);
        few = omega (arith, left.few, few);
      }

  pub words_kept : (g : ℕ → ℕ → Instruction) (rs : List ℕ) (h : ℕ) → Left (each_word g rs h) before i (each_word g (drop i rs) (h + 4 * i)) now → (r : ℕ) (x : Instruction) (next : Records) → i < length rs → r ≡ get_or rs i r → x ≡ g r (h + 4 * i) → Appends (x ∷ []) now next → Left (each_word g rs h) before (i + 1) (each_word g (drop (i + 1) rs) (h + 4 * (i + 1))) next
  words_kept g rs h left r x next l e q p =
      let word : h + 4 * (i + 1) ≡ h + 4 * i + 4 = omega arith in
      record {
        same_list = p.same_list ∙ left.same_list;
        gives_the_whole = rw word (words_more g (code_in now) (code_in next) rs i (h + 4 * i) r x l e q p.code ∙ left.gives_the_whole);
        few = omega (arith, left.few, one_record x now next p);
      }

  pub records_kept : (xs : List Instruction) → Left xs before i (drop i xs) now → (x : Instruction) (next : Records) → i < length xs → x ≡ get_or xs i x → Appends (x ∷ []) now next → Left xs before (i + 1) (drop (i + 1) xs) next
  records_kept xs left x next l e p = record {
    same_list = p.same_list ∙ left.same_list;
    gives_the_whole = records_more (code_in now) (code_in next) xs i x l e p.code ∙ left.gives_the_whole;
    few = omega (arith, left.few, one_record x now next p);
  }

  -- nothing is left behind the last element
  pub none_left : {A : Type 0} (whole : List Instruction) (most : ℕ) (code : List A → List Instruction) (xs : List A) → code [] ≡ [] → length xs ≤ i → Left whole before most (code (drop i xs)) now → Appends whole before now
  none_left whole most code xs none l left = record { same_list = left.same_list; code = sym (at_drop_all (λ ys. emit (code_in now) (code ys)) xs i l ∙ ap (emit (code_in now)) none) ∙ left.gives_the_whole }

-- code that fits the list stands at its front, and what lies behind it is as before
emit_fits : (xs : List Instruction) (c : Code) → c.at + length xs ≤ length c.list → (emit c xs).list ≡ take c.at c.list ++ (xs ++ drop (c.at + length xs) c.list)
emit_fits [] c h = rw add-zero (sym (take-append-drop c.at c.list))
emit_fits (x ∷ xs) c h =
    let l : List Instruction = set c.list c.at x in
    let n : ℕ = c.at in
    let within : n < length c.list = omega arith in
    let room : n + 1 + length xs ≤ length l = simp length-set (omega arith) in
    let far : n < n + 1 + length xs = omega arith in
    let sum : n + 1 + length xs ≡ n + length (x ∷ xs) = omega arith in
    emit_fits xs (record { list = l; at = n + 1 }) room ∙ rw (take_more_set, drop-set-lt, sum, append_assoc)

-- the whole code, written from the front of a list
module _ (made old : List Instruction) (before after : Records) (empty : code_in before ≡ code_of old 0) (p : Appends made before after) where
  written : code_in after ≡ emit (code_of old 0) made
  written = p.code ∙ ap (λ (c : Code). emit c made) empty

  pub in_front : length made ≤ length old → after.list.now ≡ made ++ drop (length made) old
  in_front h =
      let room : 0 + length made ≤ length old = omega arith in
      ap (λ (c : Code). c.list) written ∙ emit_fits made (code_of old 0) room ∙ rw zero-add

  pub counted : after.len ≡ length made
  counted = omega (arith, ap (λ (c : Code). c.at) written, emit_at made (code_of old 0))
