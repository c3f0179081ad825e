-- K9: what the two editions share, and where they part.
use Rattle.std.specs.Prelude.{ℕ, ◌<◌, List, [], ◌∷◌, ◌≡◌, refl, length, take}
use Rattle.std.proofs.Common.{sym, ap, ◌∙◌}
use Rattle.format.specs.Canonical.{write_part, unless_empty, keep_rows, bare, write_content, write_subsections, rewrite_names, canonical_names}
use Rattle.format.proofs.Laws.Editions.{name_known, map_known, indirect_known, same_known, below_known, narrower_accepts, narrower_answers, known_silent}
use Rattle.format.specs.Laws.Outcomes.{accepted_is}
use Rattle.format.specs.Names.{kept, known, known_kind, wider, wider_kind, contents, subsections, payload, judge_names}
use Rattle.format.specs.Numbers.{number, groups, shortest, fewest}
use Rattle.format.specs.Parts.{sized, name, remaining}
use Rattle.format.specs.Questions.{id_of, query_of, ask_at, ask, as_place}
use Rattle.format.specs.Reading.{accepted}
use Rattle.format.specs.Tables.{lookup, map_table, rows, table}
use Rattle.format.specs.declared.Question.{Question}
use Rattle.format.specs.declared.Question.TheVariants.{KeptContents}
use Rattle.wakemiono.specs.Boundary.{wm_none, wm_found, wm_place}
use Rattle.wakemiono.specs.Calls.{WmNamesJudge, WmName, WmNamesCanonical, WmWideNamesJudge, WmWideName, WmWideNamesCanonical}
use Rattle.wakemiono.specs.declared.WmAnswer.{WmAnswer}
use Rattle.promises.specs.Demands.{InBoth, the_module, a_function, a_local, a_type, a_field, a_tag}
use Rattle.promises.specs.Laws.Outputs.{wrote, wrote_first}
use Rattle.promises.specs.Laws.Saying.{judged_said}

-- the ids that the wider edition knows are none as kept
pub none_kept : (id : ℕ) → id < 12 → (p : List ℕ) (a j : WmAnswer) → WmWideNamesJudge p j → j.kind ≡ 1 → WmWideName (KeptContents id) p a → a ≡ wm_none
unfolding ask ask_at as_place
none_kept id h p a j judges k asks =
    let (t, e) = (judged_said (length p) (judge_names wider_kind 0 p) judges).found.0 k in
    asks ∙ rw (known_silent wider_kind id 0 p (below_known id h) e)

-- an empty map of id 7, rewritten by the one and by the other
abbrev empty_globals : List ℕ
empty_globals = 7 ∷ 1 ∷ 0 ∷ []

dropped : canonical_names wider_kind empty_globals ≡ accepted []
unfolding canonical_names rewrite_names write_subsections write_content unless_empty keep_rows bare map_table judge_names payload subsections contents sized name remaining number groups lookup rows table wider wider_kind
dropped = refl

stays : canonical_names known_kind empty_globals ≡ accepted empty_globals
unfolding canonical_names rewrite_names write_subsections write_content write_part unless_empty keep_rows bare map_table judge_names payload subsections contents sized name remaining number groups shortest fewest lookup rows table known known_kind
stays = refl

pub within_one_edition : (old new old' new' : List ℕ) (a b : WmAnswer) → WmWideNamesCanonical empty_globals old new a → WmNamesCanonical empty_globals old' new' b → a.kind ≡ 1 → b.kind ≡ 1 → (take a.length new ≡ []) × (take b.length new' ≡ empty_globals)
within_one_edition old new old' new' a b w v k l =
    let wide = wrote (canonical_names wider_kind empty_globals) w k in
    let first = wrote (canonical_names known_kind empty_globals) v l in
    (wrote_first wide ∙ sym (accepted_is (sym dropped ∙ wide.wants)), wrote_first first ∙ sym (accepted_is (sym stays ∙ first.wants)))

-- what the wider edition accepts the first accepts
pub accepted_by_both : (p : List ℕ) (a b : WmAnswer) → WmWideNamesJudge p a → WmNamesJudge p b → a.kind ≡ 1 → b ≡ a
accepted_by_both p a b wide first k =
    let (t, e) = (judged_said (length p) (judge_names wider_kind 0 p) wide).found.0 k in
    let (u, e₁, _) = narrower_accepts same_known 0 p e in
    let is : b ≡ wm_found 0 0 (length p) = first ∙ rw e₁ in
    let was : a ≡ wm_found 0 0 (length p) = wide ∙ rw e in
    is ∙ sym was

-- and what both ask both answer alike
known_to_first : (q : Question) → InBoth q → known_kind (id_of q) ≡ kept → ⊥
unfolding known_kind known lookup
known_to_first q the_module e = name_known e
known_to_first q (a_function k) e = map_known e
known_to_first q (a_local k j) e = indirect_known e
known_to_first q (a_type k) e = map_known e
known_to_first q (a_field k j) e = indirect_known e
known_to_first q (a_tag k) e = map_known e

pub answered_alike : (q : Question) → InBoth q → (p : List ℕ) (a b j : WmAnswer) → WmWideNamesJudge p j → j.kind ≡ 1 → WmWideName q p a → WmName q p b → b ≡ a
unfolding ask ask_at
answered_alike q both p a b j judges k wide first =
    let (t, e) = (judged_said (length p) (judge_names wider_kind 0 p) judges).found.0 k in
    first ∙ ap (λ x. wm_place (as_place x)) (narrower_answers same_known (id_of q) (query_of q) 0 p (known_to_first q both) e) ∙ sym wide
