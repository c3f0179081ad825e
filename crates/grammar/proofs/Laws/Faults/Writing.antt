-- Lists are refused exactly at their faults, in the order of the rules.
use Rattle.std.specs.Prelude.{ℕ, zero, suc, ◌+◌, ◌/◌, ◌≤◌, ◌<◌, Bool, true, ◌&&◌, List, [], ◌∷◌, ◌≡◌, refl, ltb, leb, eqb, length, take, drop}
use Rattle.std.proofs.Math.Option.{none, some}
use Rattle.std.proofs.Common.{sym, ap, subst, ◌∙◌, arith, leb-true, leb-false, ltb-true, ltb-false, eqb-true, le-leb, le-ltb, lt-ltb, eq-eqb, length-append, length-drop, take-take, length-take-le}
use Rattle.std.proofs.Math.ListN.{get_elem?}
use Rattle.format.specs.Canonical.{write_part, write_rows, write_table, write_content, write_subsections}
use Rattle.format.specs.Holding.{Lists, first_listed, later_listed}
use Rattle.format.specs.Laws.Options.{not_some, some_is, by_option}
use Rattle.format.specs.Laws.Outcomes.{not_accepted, by_test, on_both, false_true}
use Rattle.format.specs.Lists.{sum, listed, unsorted_at, bad_text_at, provided, subsection, function_names}
use Rattle.format.specs.Names.{names}
use Rattle.format.specs.Numbers.{limit32, fewest, shortest}
use Rattle.format.specs.Reading.{accepted, refused}
use Rattle.format.specs.Tables.{size}
use Rattle.format.specs.Text.{utf8}
use Rattle.format.specs.declared.Reason.TheVariants.{SubsectionTooLarge}
use Rattle.grammar.specs.Faults.Writing.{Agree, Rise, AreText, FineLists, bytes_for, entries_length, contents_length, FirstFault, ListsFault, lists_disagree, not_above_lem, not_text, subsection_too_large}
use Rattle.grammar.proofs.Laws.Faults.Judgements.{refused_number, refused_place}
use Rattle.grammar.proofs.Laws.CodePoints.{utf8_text, text_utf8}

-- Rising indices
least_of : (position least : ℕ) (is : List ℕ) (i : ℕ) {a : ℕ} → unsorted_at position least is ≡ none → get_elem? is i ≡ some a → least ≤ a
unfolding unsorted_at
least_of position least [] i u e = absurd (not_some e)
least_of position least (x ∷ is) zero u e =
    by_test (leb least x) (λ t. rw (← some_is e) (leb-true least x t)) (λ t. absurd (not_some (sym (rw t at u))))
least_of position least (x ∷ is) (suc i) u e =
    by_test (leb least x)
    (λ t. let above = least_of (suc position) (suc x) is i (rw t at u) e in omega (arith, leb-true least x t, above))
    (λ t. absurd (not_some (sym (rw t at u))))

pub rising_of : (position least : ℕ) (is : List ℕ) → unsorted_at position least is ≡ none → Rise is
unfolding unsorted_at
rising_of position least [] u i j a b l e e' = absurd (not_some e)
rising_of position least (x ∷ is) u zero zero a b l e e' = absurd (omega arith)
rising_of position least (x ∷ is) u (suc i) zero a b l e e' = absurd (omega arith)
rising_of position least (x ∷ is) u zero (suc j) a b l e e' =
    by_test (leb least x)
    (λ t. let above = least_of (suc position) (suc x) is j (rw t at u) e' in let is_x = some_is e in omega (arith, above, is_x))
    (λ t. absurd (not_some (sym (rw t at u))))
rising_of position least (x ∷ is) u (suc i) (suc j) a b l e e' =
    by_test (leb least x)
    (λ t. rising_of (suc position) (suc x) is (rw t at u) i j a b (omega arith) e e')
    (λ t. absurd (not_some (sym (rw t at u))))

to_rising : (position least : ℕ) (is : List ℕ) → ((i a : ℕ) → get_elem? is i ≡ some a → least ≤ a) → Rise is → unsorted_at position least is ≡ none
unfolding unsorted_at
to_rising position least [] h k = refl
to_rising position least (x ∷ is) h k =
    rw (le-leb least x (h 0 x refl)) (to_rising (suc position) (suc x) is (λ i a e. let above = k 0 (suc i) x a (omega arith) refl e in omega arith) (λ i j a b l e e'. k (suc i) (suc j) a b (omega arith) e e'))

-- Names that are text
texts_of : {k : ℕ} {x : List ℕ} (start : ℕ) {is ns text : List ℕ} → bad_text_at start ns text ≡ none → Lists k x is ns text → utf8 x ≡ true
unfolding bad_text_at
texts_of start u (first_listed {text = text} {n = n} e) = by_test (utf8 (take n text)) (λ t. rw (← e) t) (λ t. absurd (not_some (sym (rw t at u))))
texts_of start u (later_listed {text = text} {n = n} l) = by_test (utf8 (take n text)) (λ t. texts_of (start + n) (rw t at u) l) (λ t. absurd (not_some (sym (rw t at u))))

to_texts : (start : ℕ) (is ns text : List ℕ) → length is ≡ length ns → ((k : ℕ) (x : List ℕ) → Lists k x is ns text → utf8 x ≡ true) → bad_text_at start ns text ≡ none
unfolding bad_text_at
to_texts start is [] text l h = refl
to_texts start [] (n ∷ ns) text l h = absurd (omega (arith, l))
to_texts start (i ∷ is) (n ∷ ns) text l h = rw (h i (take n text) (first_listed refl)) (to_texts (start + n) is ns (drop n text) (omega (arith, l)) (λ k x m. h k x (later_listed m)))

pub are_text : {is ns text : List ℕ} → bad_text_at 0 ns text ≡ none → AreText is ns text
are_text b k x m = utf8_text x (texts_of 0 b m)

pub to_are_text : (is ns text : List ℕ) → length is ≡ length ns → AreText is ns text → bad_text_at 0 ns text ≡ none
to_are_text is ns text l t = to_texts 0 is ns text l (λ k x m. text_utf8 (t k x m).1)

pub to_rise : (is : List ℕ) → Rise is → unsorted_at 0 0 is ≡ none
to_rise is rise = to_rising 0 0 is (λ i a e. omega arith) rise

-- The test whether lists agree
module _ (is ns text : List ℕ) where
  abbrev pub agreeing : Bool
  agreeing = eqb (length is) (length ns) && eqb (sum ns) (length text)

  pub agreed : Agree is ns text → agreeing ≡ true
  agreed agree = rw (eq-eqb (length is) (length ns) agree.0, eq-eqb (sum ns) (length text) agree.1)

  pub to_agree : agreeing ≡ true → Agree is ns text
  to_agree t = on_both (eqb (length is) (length ns)) (eqb (sum ns) (length text)) t λ l s. (eqb-true (length is) (length ns) l, eqb-true (sum ns) (length text) s)

-- The first fault. What is well of a list is so of its beginnings
unsorted_cut : (position least : ℕ) (is : List ℕ) (k : ℕ) → unsorted_at position least is ≡ none → unsorted_at position least (take k is) ≡ none
unfolding unsorted_at
unsorted_cut position least is zero u = refl
unsorted_cut position least [] (suc k) u = refl
unsorted_cut position least (i ∷ is) (suc k) u =
    by_test (leb least i) (λ t. rw t (unsorted_cut (suc position) (suc i) is k (rw t at u))) (λ t. absurd (not_some (sym (rw t at u))))

bad_cut : (start : ℕ) (ns text : List ℕ) (k : ℕ) → bad_text_at start ns text ≡ none → bad_text_at start (take k ns) text ≡ none
unfolding bad_text_at
bad_cut start ns text zero b = refl
bad_cut start [] text (suc k) b = refl
bad_cut start (n ∷ ns) text (suc k) b =
    by_test (utf8 (take n text)) (λ t. rw t (bad_cut (start + n) ns (drop n text) k (rw t at b))) (λ t. absurd (not_some (sym (rw t at b))))

-- and where it is not well, there is a first fault
unsorted_fault : (position least : ℕ) (is : List ℕ) {at : ℕ} → unsorted_at position least is ≡ some at → (k : ℕ) × (position + k ≡ at) × FirstFault (λ n. unsorted_at position least (take n is) ≡ none) k
unfolding unsorted_at
unsorted_fault position least [] e = absurd (not_some e)
unsorted_fault position least (i ∷ is) e =
    by_test (leb least i)
    (λ t.
    let (k, there, fault) = unsorted_fault (suc position) (suc i) is (rw t at e) in
    (suc k, omega (arith, there), (rw t fault.0, λ more. fault.1 (rw t at more))))
    (λ t. let at = some_is (rw t at e) in (0, omega (arith, at), (refl, λ more. absurd (not_some (sym (rw t at more))))))

bad_fault : (start : ℕ) (ns text : List ℕ) {at : ℕ} → bad_text_at start ns text ≡ some at → (k : ℕ) × (start + sum (take k ns) ≡ at) × FirstFault (λ n. bad_text_at start (take n ns) text ≡ none) k
unfolding bad_text_at sum
bad_fault start [] text e = absurd (not_some e)
bad_fault start (n ∷ ns) text e =
    by_test (utf8 (take n text))
    (λ t.
    let (k, there, fault) = bad_fault (start + n) ns (drop n text) (rw t at e) in
    (suc k, omega (arith, there), (rw t fault.0, λ more. fault.1 (rw t at more))))
    (λ t. let at = some_is (rw t at e) in (0, omega (arith, at), (refl, λ more. absurd (not_some (sym (rw t at more))))))

-- there is but one
one_fault : (Fine : ℕ → Type 0) → ((i j : ℕ) → i ≤ j → Fine j → Fine i) → (k l : ℕ) → FirstFault Fine k → FirstFault Fine l → k ≡ l
one_fault Fine below k l f g =
    by_test (ltb k l) (λ t. absurd (f.1 (below (suc k) l (omega (arith, ltb-true k l t)) g.0))) λ t.
    by_test (ltb l k) (λ t'. absurd (g.1 (below (suc l) k (omega (arith, ltb-true l k t')) f.0))) λ t'.
    omega (arith, ltb-false k l t, ltb-false l k t')

same_cut : (k : ℕ) (is ns : List ℕ) → length is ≡ length ns → length (take k is) ≡ length (take k ns)
same_cut zero is ns l = refl
same_cut (suc k) [] [] l = refl
same_cut (suc k) [] (n ∷ ns) l = absurd (omega (arith, l))
same_cut (suc k) (i ∷ is) [] l = absurd (omega (arith, l))
same_cut (suc k) (i ∷ is) (n ∷ ns) l = ap suc (same_cut k is ns (omega (arith, l)))

-- Indices: their fault is where `unsorted_at` has it
module _ (is : List ℕ) where
  rise_below : (i j : ℕ) → i ≤ j → Rise (take j is) → Rise (take i is)
  rise_below i j h rise = subst (λ l. Rise l) (take-take i j is h) (rising_of 0 0 (take i (take j is)) (unsorted_cut 0 0 (take j is) i (to_rise (take j is) rise)))

  index_fault : (at : ℕ) → unsorted_at 0 0 is ≡ some at → FirstFault (λ n. Rise (take n is)) at
  index_fault at e =
      let (k, there, fault) = unsorted_fault 0 0 is e in
      let same : k ≡ at = omega (arith, there) in
      subst (λ n. FirstFault (λ n. Rise (take n is)) n) same (rising_of 0 0 (take k is) fault.0, λ more. fault.1 (to_rise (take (suc k) is) more))

  to_unsorted : (k : ℕ) → FirstFault (λ n. Rise (take n is)) k → unsorted_at 0 0 is ≡ some k
  to_unsorted k fault =
      by_option (unsorted_at 0 0 is)
      (λ u. absurd (fault.1 (rising_of 0 0 (take (suc k) is) (unsorted_cut 0 0 is (suc k) u))))
      (λ at u. u ∙ ap some (one_fault (λ n. Rise (take n is)) rise_below at k (index_fault at u) fault))

-- Names: theirs is where `bad_text_at` has it
module _ (is ns text : List ℕ) (counts : length is ≡ length ns) where
  abbrev Well : ℕ → Type 0
  Well n = AreText (take n is) (take n ns) text

  to_well : (k : ℕ) → Well k → bad_text_at 0 (take k ns) text ≡ none
  to_well k well = to_are_text (take k is) (take k ns) text (same_cut k is ns counts) well

  well_below : (i j : ℕ) → i ≤ j → Well j → Well i
  well_below i j h well = are_text (subst (λ l. bad_text_at 0 l text ≡ none) (take-take i j ns h) (bad_cut 0 (take j ns) text i (to_well j well)))

  name_fault : (at : ℕ) → bad_text_at 0 ns text ≡ some at → (k : ℕ) × (sum (take k ns) ≡ at) × FirstFault Well k
  name_fault at e = let (k, there, fault) = bad_fault 0 ns text e in (k, omega (arith, there), (are_text fault.0, λ more. fault.1 (to_well (suc k) more)))

  to_bad : (k : ℕ) → FirstFault Well k → bad_text_at 0 ns text ≡ some (sum (take k ns))
  to_bad k fault =
      by_option (bad_text_at 0 ns text)
      (λ b. absurd (fault.1 (are_text (bad_cut 0 ns text (suc k) b))))
      (λ at b.
      let (l, there, fault') = name_fault at b in
      b ∙ ap some (sym there ∙ ap (λ n. sum (take n ns)) (one_fault Well well_below l k fault' fault)))

-- What the lists are judged
module _ (is ns text : List ℕ) where
  refused_14 : (Agree is ns text → ⊥) → function_names is ns text ≡ refused 14 0
  unfolding function_names
  refused_14 differ = by_test (agreeing is ns text) (λ t. absurd (differ (to_agree is ns text t))) (λ t. rw t)

  refused_11 : (at : ℕ) → Agree is ns text → unsorted_at 0 0 is ≡ some at → function_names is ns text ≡ refused 11 at
  unfolding function_names
  refused_11 at agree u = rw (agreed is ns text agree, u)

  refused_4 : (at : ℕ) → Agree is ns text → unsorted_at 0 0 is ≡ none → bad_text_at 0 ns text ≡ some at → function_names is ns text ≡ refused 4 at
  unfolding function_names
  refused_4 at agree u b = rw (agreed is ns text agree, u, b)

-- HOW LONG the subsection is
short : (more n : ℕ) → n < 128 → length (fewest more n) ≡ 1
unfolding fewest
short zero n h = refl
short (suc more) n h = rw (lt-ltb n 128 h)

one_byte_more : (more n k : ℕ) → 128 ≤ n → length (fewest more (n / 128)) ≡ k → length (fewest (suc more) n) ≡ suc k
unfolding fewest
one_byte_more more n k l e = rw (le-ltb n 128 l, e)

last_byte : (n : ℕ) → length (fewest 0 n) ≡ 1
unfolding fewest
last_byte n = refl

pub number_long : (n : ℕ) → length (shortest n) ≡ bytes_for n
unfolding shortest
number_long n =
    by_test (ltb n 128) (λ t. rw t (short 4 n (ltb-true n 128 t))) λ t₁.
    by_test (ltb n 16_384) (λ t. rw (t₁, t) (one_byte_more 3 n 1 (ltb-false n 128 t₁) (short 3 (n / 128) (omega (arith, ltb-true n 16_384 t))))) λ t₂.
    by_test (ltb n 2_097_152) (λ t. rw (t₁, t₂, t) (let l = ltb-false n 16_384 t₂ in one_byte_more 3 n 2 (omega (arith, l)) (one_byte_more 2 (n / 128) 1 (omega (arith, l)) (short 2 (n / 128 / 128) (omega (arith, ltb-true n 2_097_152 t)))))) λ t₃.
    by_test (ltb n 268_435_456) (λ t. rw (t₁, t₂, t₃, t) (let l = ltb-false n 2_097_152 t₃ in one_byte_more 3 n 3 (omega (arith, l)) (one_byte_more 2 (n / 128) 2 (omega (arith, l)) (one_byte_more 1 (n / 128 / 128) 1 (omega (arith, l)) (short 1 (n / 128 / 128 / 128) (omega (arith, ltb-true n 268_435_456 t))))))) λ t₄.
    rw (t₁, t₂, t₃, t₄) (let l = ltb-false n 268_435_456 t₄ in one_byte_more 3 n 4 (omega (arith, l)) (one_byte_more 2 (n / 128) 3 (omega (arith, l)) (one_byte_more 1 (n / 128 / 128) 2 (omega (arith, l)) (one_byte_more 0 (n / 128 / 128 / 128) 1 (omega (arith, l)) (last_byte (n / 128 / 128 / 128 / 128))))))

rows_long : (is ns text : List ℕ) → sum ns ≤ length text → length (write_rows write_part (listed is ns text)) ≡ entries_length is ns
unfolding listed write_rows write_part sum
rows_long [] ns text h = refl
rows_long (i ∷ is) [] text h = refl
rows_long (i ∷ is) (n ∷ ns) text h =
    let more = rows_long is ns (drop n text) (rw length-drop (omega arith)) in
    simp (length-append, length-take-le n text (omega arith)) (omega (arith, more, number_long i, number_long n))

listed_size : (is ns text : List ℕ) → length is ≡ length ns → size (listed is ns text) ≡ length is
unfolding listed size
listed_size [] ns text e = refl
listed_size (i ∷ is) [] text e = absurd (omega arith)
listed_size (i ∷ is) (n ∷ ns) text e = omega (arith, listed_size is ns (drop n text) (omega arith))

pub contents_long : (is ns text : List ℕ) → Agree is ns text → length (write_content (names (listed is ns text))) ≡ contents_length is ns
unfolding write_content write_table
contents_long is ns text agree = rw (length-append, listed_size is ns text agree.0, number_long (length is), rows_long is ns text (omega (arith, agree.1)))

-- LISTS THAT ARE FINE are written, unless the subsection is too large
module _ {is ns text : List ℕ} (fine : FineLists is ns text) where
  by_size : function_names is ns text ≡ provided (ltb (contents_length is ns) limit32) SubsectionTooLarge (accepted (write_subsections (subsection (listed is ns text))))
  unfolding function_names
  by_size =
      let c = agreed is ns text fine.agree in
      let u = to_rise is fine.rise in
      let b = to_are_text is ns text fine.agree.0 fine.are_text in
      rw (c, u, b, contents_long is ns text fine.agree)

  pub fine_too_large : 4_294_967_295 < contents_length is ns → function_names is ns text ≡ refused 15 0
  fine_too_large h = by_size ∙ rw (le-ltb (contents_length is ns) limit32 (omega arith))

  pub fine_wanted : contents_length is ns ≤ 4_294_967_295 → function_names is ns text ≡ accepted (write_subsections (subsection (listed is ns text)))
  fine_wanted small = by_size ∙ rw (lt-ltb (contents_length is ns) limit32 (omega arith))

-- WHAT THE LISTS ARE JUDGED
module _ (is ns text : List ℕ) where
  pub lists_stop : {n at : ℕ} → ListsFault is ns text n at → function_names is ns text ≡ refused n at
  lists_stop (lists_disagree differ) = refused_14 is ns text differ
  lists_stop (not_above_lem k agree fault) = refused_11 is ns text k agree (to_unsorted is k fault)
  lists_stop (not_text k agree rise fault) = refused_4 is ns text (sum (take k ns)) agree (to_rise is rise) (to_bad is ns text agree.0 k fault)
  lists_stop (subsection_too_large fine large) = fine_too_large fine large

  -- faulty, or fine and not too large
  pub by_fault {ℓ} : {C : Type ℓ} → ((n at : ℕ) → ListsFault is ns text n at → C) → (FineLists is ns text → contents_length is ns ≤ 4_294_967_295 → C) → C
  by_fault faulty well =
      by_test (agreeing is ns text)
      (λ t.
      let agree = to_agree is ns text t in
      by_option (unsorted_at 0 0 is)
      (λ u. by_option (bad_text_at 0 ns text)
      (λ b.
      let fine : FineLists is ns text = record { agree = agree; rise = rising_of 0 0 is u; are_text = are_text b } in
      by_test (leb (contents_length is ns) 4_294_967_295)
      (λ s. well fine (leb-true (contents_length is ns) 4_294_967_295 s))
      (λ s. faulty 15 0 (subsection_too_large fine (leb-false (contents_length is ns) 4_294_967_295 s))))
      (λ start b. let (k, there, fault) = name_fault is ns text agree.0 start b in faulty 4 (sum (take k ns)) (not_text k agree (rising_of 0 0 is u) fault)))
      (λ position u. faulty 11 position (not_above_lem position agree (index_fault is position u))))
      (λ t. faulty 14 0 (lists_disagree (λ agree. false_true (sym t ∙ agreed is ns text agree))))

  pub lists_found : (n at : ℕ) → function_names is ns text ≡ refused n at → ListsFault is ns text n at
  lists_found n at e =
      by_fault
      (λ m k f.
      let same = sym (lists_stop f) ∙ e in
      rw (← refused_number same, ← refused_place same) f)
      (λ fine small. absurd (not_accepted (sym e ∙ fine_wanted fine small)))

  pub one_list_fault : (n m i j : ℕ) → ListsFault is ns text n i → ListsFault is ns text m j → (n ≡ m) × (i ≡ j)
  one_list_fault n m i j f g = let same = sym (lists_stop f) ∙ lists_stop g in (refused_number same, refused_place same)

  pub lists_not_fine : {n at : ℕ} → ListsFault is ns text n at → FineLists is ns text → contents_length is ns ≤ 4_294_967_295 → ⊥
  lists_not_fine f fine small = not_accepted (sym (lists_stop f) ∙ fine_wanted fine small)
