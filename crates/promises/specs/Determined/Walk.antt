-- Each promise of the crate `walk` determines what comes back.
use Rattle.format.proofs.Determined.{Determines1, Determines2, Determines3, Determines4, equal_determined, meaning_determined, answer_determined}
use Rattle.walk.proofs.Same.{count_same, section_same, begin_same, step_same, id_same, name_same, see_same, called_same, survey_same}
use Rattle.walk.specs.Promises.{WalkCount, WalkSectionAt, WalkCustom, WalkCustomJoined, WalkIsCalled, WalkIsJoined, WalkCalled, WalkJudgeId, WalkJudgeName, WalkSee, WalkBegin, walk_step, WalkSurvey}

pub record Walk : Type 0 where
  -- walk
  walk_count : Determines1 WalkCount
  walk_section_at : Determines2 WalkSectionAt
  walk_custom : Determines2 WalkCustom
  walk_custom_joined : Determines3 WalkCustomJoined
  -- walk::called
  walk_is_called : Determines3 WalkIsCalled
  walk_is_joined : Determines4 WalkIsJoined
  -- walk::rows
  walk_called : Determines2 WalkCalled
  -- walk::rules
  walk_judge_id : Determines2 WalkJudgeId
  walk_judge_name : Determines2 WalkJudgeName
  walk_see : Determines3 WalkSee
  -- walk::step
  walk_begin : Determines1 WalkBegin
  walk_step : Determines2 walk_step
  -- walk::survey
  walk_survey : Determines4 WalkSurvey

pub determined : Walk
determined =
    record {
      walk_count = λ m. meaning_determined count_same _;
      walk_section_at = λ m position. meaning_determined section_same _;
      walk_custom = λ m name. answer_determined _;
      walk_custom_joined = λ m front rest. answer_determined _;
      walk_is_called = λ s part name. equal_determined _;
      walk_is_joined = λ s part front rest. equal_determined _;
      walk_called = λ s part. called_same;
      walk_judge_id = λ seen id. id_same;
      walk_judge_name = λ seen called. name_same called;
      walk_see = λ seen id called. see_same;
      walk_begin = λ m. begin_same;
      walk_step = λ self m. step_same;
      walk_survey = λ m position front rest. survey_same;
    }
