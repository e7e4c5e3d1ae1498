-- Tables of pages: what a value that is put, and a page that is given, do to the values of all places.
use Rattle.std.proofs.Common.{◌≡◌, ◌≢◌, ℕ, ◌+◌, ◌-◌, ◌*◌, ◌/◌, ◌%◌, ◌<◌, ◌≤◌, Bool, true, false, cond, not, List, length, get_or, set, ◌++◌, count_by, refl, sym, ap, subst, ◌∙◌, arith}
use Rattle.std.specs.Prelude.{◌==◌}
use Rattle.std.proofs.Math.ListN.{replicate}
use Rattle.std.proofs.lemmas.Bool.{eqb-true, eqb-false}
use Rattle.std.proofs.lemmas.List.{length-set, length-append, length-replicate, get_or-set_same, get_or-set_other, get_or-replicate, get_or_append_left, get_or-append_right, get_or_default}
use Rattle.std.proofs.lemmas.List.FromFn.{length-map-range_with_len, get_or-map-range_with_len, fill_by_all}
use Rattle.std.proofs.lemmas.List.Sums.{count_by-le-length, sum_by-set}
use Rattle.lvdc_map.specs.Sectors.{stands_at, values_in, is_own, IsPaged}

-- the sector of a place has a page of its own in a table with these values
pub record HasPage {X : Type 0} (blank : X) (pages : List ℕ) (items : List X) (last capacity place : ℕ) (values : List X) : Type 0 where
  pub paged : IsPaged blank pages items
  pub known : last ≡ count_by is_own pages
  pub room : 33024 ≤ capacity
  pub own : get_or pages (place / 256) 0 ≢ 0
  pub same : values_in blank pages items ≡ values

module _ {X : Type 0} (blank : X) where
  -- a place stands within the pages
  pub stands-within : (pages : List ℕ) (items : List X) (place : ℕ) → place < 32768 → IsPaged blank pages items → stands_at pages place < length items
  stands-within pages items place small is = omega (arith, is.size, is.within (place / 256) (omega arith))

  -- the value of a place among those of all
  pub value-there : (pages : List ℕ) (items : List X) (place : ℕ) (d : X) → place < 32768 → IsPaged blank pages items
      → get_or (values_in blank pages items) place d ≡ get_or items (stands_at pages place) d
  value-there pages items place d small is =
      get_or-map-range_with_len (λ k. get_or items (stands_at pages k) blank) 0 32768 place place d small (omega arith)
      ∙ get_or_default items (stands_at pages place) blank d (stands-within pages items place small is)

  -- there are as many values as places
  pub values-size : (pages : List ℕ) (items : List X) → length (values_in blank pages items) ≡ 32768
  values-size pages items = length-map-range_with_len (λ k. get_or items (stands_at pages k) blank) 0 32768

  -- two places that stand at one are the same, where the sector of one has a page of its own
  same-place : (pages : List ℕ) (items : List X) (one other : ℕ) → one < 32768 → other < 32768 → IsPaged blank pages items
      → get_or pages (one / 256) 0 ≢ 0 → stands_at pages one ≡ stands_at pages other → one ≡ other
  same-place pages items one other small less is own same =
      let page : get_or pages (one / 256) 0 ≡ get_or pages (other / 256) 0 = omega (arith, same) in
      let sector : one / 256 ≡ other / 256 = is.apart (one / 256) (other / 256) (omega arith) (omega arith) own page in
      omega (arith, same, page, sector)

  -- a value that is put at a place whose sector has a page of its own
  pub value-put : (pages : List ℕ) (items : List X) (place : ℕ) (value : X) → place < 32768 → IsPaged blank pages items
      → get_or pages (place / 256) 0 ≢ 0 → values_in blank pages (set items (stands_at pages place) value) ≡ set (values_in blank pages items) place value
  value-put pages items place value small is own =
      sym (fill_by_all (λ k. get_or (set items (stands_at pages place) value) (stands_at pages k) blank) (set (values_in blank pages items) place value) 32768 blank
      (length-set (values_in blank pages items) place value ∙ values-size pages items) (λ k less. by_case k less (k == place) refl))
    where
      by_case : (k : ℕ) → k < 32768 → (b : Bool) → (k == place) ≡ b
          → get_or (set (values_in blank pages items) place value) k blank ≡ get_or (set items (stands_at pages place) value) (stands_at pages k) blank
      by_case k less true e =
          let at : k ≡ place = eqb-true k place e in
          ap (λ (j : ℕ). get_or (set (values_in blank pages items) place value) j blank) at
          ∙ get_or-set_same (values_in blank pages items) place value blank (omega (arith, values-size pages items))
          ∙ sym (get_or-set_same items (stands_at pages place) value blank (stands-within pages items place small is))
          ∙ ap (λ (j : ℕ). get_or (set items (stands_at pages place) value) (stands_at pages j) blank) (sym at)
      by_case k less false e =
          let apart : k ≢ place = eqb-false k place e in
          get_or-set_other (values_in blank pages items) place k value blank apart ∙ value-there pages items k blank less is
          ∙ sym (get_or-set_other items (stands_at pages place) (stands_at pages k) value blank
          (λ same. apart (sym (same-place pages items place k small less is own (sym same)))))

  -- the pages are as they should be when a value was put
  pub paged-put : (pages : List ℕ) (items : List X) (place : ℕ) (value : X) → place < 32768 → IsPaged blank pages items
      → get_or pages (place / 256) 0 ≢ 0 → IsPaged blank pages (set items (stands_at pages place) value)
  paged-put pages items place value small is own = record {
    sectors = is.sectors;
    size = length-set items (stands_at pages place) value ∙ is.size;
    within = is.within;
    first = λ loc d less. get_or-set_other items (stands_at pages place) loc value d (omega (arith, own)) ∙ is.first loc d less;
    apart = is.apart;
  }

  -- ---- a page that is given

  -- one more sector has a page of its own
  pub owns-more : (pages : List ℕ) (sector page : ℕ) → sector < length pages → get_or pages sector 0 ≡ 0 → page ≢ 0
      → count_by is_own (set pages sector page) ≡ count_by is_own pages + 1
  owns-more pages sector page within none some =
      omega (arith, sum_by-set weight pages sector page 0 within, ap weight none, ap one_if (own page some))
    where
      one_if : Bool → ℕ
      one_if b = cond b 1 0

      weight : ℕ → ℕ
      weight p = cond (is_own p) 1 0

      own : (p : ℕ) → p ≢ 0 → is_own p ≡ true
      own p more = by_case (p == 0) refl
        where
          by_case : (b : Bool) → (p == 0) ≡ b → not (p == 0) ≡ true
          by_case true e = absurd (more (eqb-true p 0 e))
          by_case false e = ap not e

  -- so not all have one yet
  pub owns-few : (pages : List ℕ) (sector : ℕ) → length pages ≡ 128 → sector < 128 → get_or pages sector 0 ≡ 0 → count_by is_own pages < 128
  owns-few pages sector all within none =
      omega (arith, all, owns-more pages sector 1 (omega (arith, all)) none (omega arith), count_by-le-length is_own (set pages sector 1), length-set pages sector 1)

  -- a sector that had none has the next page, with the blank value at each place
  pub paged-more : (pages : List ℕ) (items : List X) (sector page : ℕ) → sector < 128 → IsPaged blank pages items → get_or pages sector 0 ≡ 0
      → page ≡ count_by is_own pages + 1 → IsPaged blank (set pages sector page) (items ++ replicate 256 blank)
  paged-more pages items sector page small is none next = record {
    sectors = length-set pages sector page ∙ is.sectors;
    size = length-append items (replicate 256 blank) ∙ omega (arith, is.size, length-replicate {A = X} 256 blank, more);
    within = λ other less. by_case other less (other == sector) refl;
    first = λ loc d less. get_or_append_left items (replicate 256 blank) d loc (omega (arith, is.size)) ∙ is.first loc d less;
    apart = λ one other less lesser own same. by_cases one other less lesser own same (one == sector) (other == sector) refl refl;
  }
    where
      more : count_by is_own (set pages sector page) ≡ count_by is_own pages + 1
      more = owns-more pages sector page (omega (arith, is.sectors)) none (omega (arith, next))

      here : (other : ℕ) → (other == sector) ≡ true → get_or (set pages sector page) other 0 ≡ page
      here other e =
          ap (λ (j : ℕ). get_or (set pages sector page) j 0) (eqb-true other sector e) ∙ get_or-set_same pages sector page 0 (omega (arith, is.sectors))

      there : (other : ℕ) → (other == sector) ≡ false → get_or (set pages sector page) other 0 ≡ get_or pages other 0
      there other e = get_or-set_other pages sector other page 0 (eqb-false other sector e)

      by_case : (other : ℕ) → other < 128 → (b : Bool) → (other == sector) ≡ b → get_or (set pages sector page) other 0 ≤ count_by is_own (set pages sector page)
      by_case other less true e = omega (arith, here other e, more, next)
      by_case other less false e = omega (arith, there other e, more, is.within other less)

      by_cases : (one other : ℕ) → one < 128 → other < 128 → get_or (set pages sector page) one 0 ≢ 0
          → get_or (set pages sector page) one 0 ≡ get_or (set pages sector page) other 0
          → (b c : Bool) → (one == sector) ≡ b → (other == sector) ≡ c → one ≡ other
      by_cases one other less lesser own same true true e f = eqb-true one sector e ∙ sym (eqb-true other sector f)
      by_cases one other less lesser own same true false e f =
          absurd (omega (arith, here one e, there other f, same, next, is.within other lesser))
      by_cases one other less lesser own same false true e f =
          absurd (omega (arith, there one e, here other f, same, next, is.within one less))
      by_cases one other less lesser own same false false e f =
          is.apart one other less lesser (subst (λ (p : ℕ). p ≢ 0) (there one e) own) (sym (there one e) ∙ same ∙ there other f)

  -- no value changes
  pub values-kept : (pages : List ℕ) (items : List X) (sector page : ℕ) → sector < 128 → IsPaged blank pages items → get_or pages sector 0 ≡ 0
      → page ≡ count_by is_own pages + 1 → values_in blank (set pages sector page) (items ++ replicate 256 blank) ≡ values_in blank pages items
  values-kept pages items sector page small is none next =
      sym (fill_by_all (λ k. get_or (items ++ replicate 256 blank) (stands_at (set pages sector page) k) blank) (values_in blank pages items) 32768 blank
      (values-size pages items) (λ k less. value-there pages items k blank less is ∙ by_case k less (k / 256 == sector) refl))
    where
      by_case : (k : ℕ) → k < 32768 → (b : Bool) → (k / 256 == sector) ≡ b
          → get_or items (stands_at pages k) blank ≡ get_or (items ++ replicate 256 blank) (stands_at (set pages sector page) k) blank
      by_case k less true e =
          let at : k / 256 ≡ sector = eqb-true (k / 256) sector e in
          let old : get_or pages (k / 256) 0 ≡ 0 = ap (λ (j : ℕ). get_or pages j 0) at ∙ none in
          let new : get_or (set pages sector page) (k / 256) 0 ≡ page =
          ap (λ (j : ℕ). get_or (set pages sector page) j 0) at ∙ get_or-set_same pages sector page 0 (omega (arith, is.sectors)) in
          let stood : stands_at pages k ≡ k % 256 = omega (arith, old) in
          let stands : stands_at (set pages sector page) k ≡ length items + k % 256 = omega (arith, new, next, is.size) in
          let behind : length items + k % 256 - length items ≡ k % 256 = omega arith in
          ap (λ (j : ℕ). get_or items j blank) stood ∙ is.first (k % 256) blank (omega arith)
          ∙ sym (get_or-replicate {A = X} 256 (k % 256) blank blank (omega arith))
          ∙ sym (ap (λ (j : ℕ). get_or (items ++ replicate 256 blank) j blank) stands
          ∙ get_or-append_right items (replicate 256 blank) (length items) (length items + k % 256) blank refl (omega arith)
          ∙ ap (λ (j : ℕ). get_or (replicate 256 blank) j blank) behind)
      by_case k less false e =
          let same : stands_at (set pages sector page) k ≡ stands_at pages k =
          ap (λ (p : ℕ). p * 256 + k % 256) (get_or-set_other pages sector (k / 256) page 0 (eqb-false (k / 256) sector e)) in
          sym (ap (λ (j : ℕ). get_or (items ++ replicate 256 blank) j blank) same
          ∙ get_or_append_left items (replicate 256 blank) blank (stands_at pages k) (stands-within pages items k less is))

  -- both
  pub page-given : (pages : List ℕ) (items more : List X) (given : List ℕ) (last capacity place : ℕ) → place < 32768 → IsPaged blank pages items
      → get_or pages (place / 256) 0 ≡ 0 → last ≡ count_by is_own pages → 33024 ≤ capacity → given ≡ set pages (place / 256) (last + 1)
      → more ≡ items ++ replicate 256 blank → HasPage blank given more (last + 1) capacity place (values_in blank pages items)
  page-given pages items more given last capacity place small is none known room set_is more_is =
      let sector : place / 256 < 128 = omega arith in
      let next : last + 1 ≡ count_by is_own pages + 1 = omega (arith, known) in
      let within : place / 256 < length pages = omega (arith, is.sectors) in
      subst (λ (own : List ℕ). HasPage blank own more (last + 1) capacity place (values_in blank pages items)) (sym set_is)
      (subst (λ (all : List X). HasPage blank (set pages (place / 256) (last + 1)) all (last + 1) capacity place (values_in blank pages items)) (sym more_is) (record {
        paged = paged-more pages items (place / 256) (last + 1) sector is none next;
        known = next ∙ sym (owns-more pages (place / 256) (last + 1) within none (omega arith));
        room = room;
        own = λ zero. absurd (omega (arith, zero, get_or-set_same pages (place / 256) (last + 1) 0 within));
        same = values-kept pages items (place / 256) (last + 1) sector is none next;
      }))

  -- there is room for it
  pub page-fits : (pages : List ℕ) (items : List X) (place capacity : ℕ) → place < 32768 → IsPaged blank pages items → get_or pages (place / 256) 0 ≡ 0
      → 33024 ≤ capacity → length items + 256 ≤ capacity
  page-fits pages items place capacity small is none room =
      omega (arith, room, is.size, owns-few pages (place / 256) is.sectors (omega arith) none)

  -- ---- the beginning

  pub paged-first : (pages : List ℕ) (items : List X) → pages ≡ replicate 128 0 → items ≡ replicate 256 blank → IsPaged blank pages items
  paged-first pages items no_page all = record {
    sectors = ap length no_page;
    size = ap length all ∙ length-replicate {A = X} 256 blank ∙ ap (λ (xs : List ℕ). 256 + 256 * count_by is_own xs) (sym no_page);
    within = λ sector less. omega (arith, zero-there sector less);
    first = λ loc d less. ap (λ (xs : List X). get_or xs loc d) all ∙ get_or-replicate {A = X} 256 loc blank d less;
    apart = λ one other less lesser own same. absurd (own (zero-there one less));
  }
    where
      zero-there : (sector : ℕ) → sector < 128 → get_or pages sector 0 ≡ 0
      zero-there sector less = ap (λ (xs : List ℕ). get_or xs sector 0) no_page ∙ get_or-replicate {A = ℕ} 128 sector 0 0 less

  -- all values are the blank one where no sector has a page of its own
  pub blank-there : (pages : List ℕ) (items : List X) (place : ℕ) (d : X) → place < 32768 → IsPaged blank pages items → get_or pages (place / 256) 0 ≡ 0
      → get_or (values_in blank pages items) place d ≡ blank
  blank-there pages items place d small is none =
      let stood : stands_at pages place ≡ place % 256 = omega (arith, none) in
      value-there pages items place d small is ∙ ap (λ (j : ℕ). get_or items j d) stood ∙ is.first (place % 256) d (omega arith)
