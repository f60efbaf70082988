-- Histories of kept entries, and what is left of them without the contents that a purge lets go: a worked row, and histories that an independent model drew. Nothing rests on them.
use Rattle.std.proofs.Common.{◌≡◌, [], ◌∷◌, refl}
use Rattle.std.specs.Prelude.{codes}
use Rattle.std.specs.Fmt.{digits}
use Rattle.std.specs.Str.{is_utf8, chars}
use Rattle.serde_json.proofs.OnLiterals.{serde_json_on_literals}
use Rattle.cluster_types.specs.declared.config.Channel.TheVariants.{Hub, Task, Mux, Engine}
use Rattle.cluster_types.specs.declared.config.Scheme.TheVariants.{Lru, LeastLoad, PlainRandom}
use Rattle.cluster_types.specs.declared.verdict.Verdict.TheVariants.{Completed, Failed}
use Rattle.cluster_types.specs.declared.verdict.Cause.TheVariants.{Reply as ByReply, EngineError, ImpossibleDependency, InvalidDependency}
use Rattle.cluster_types.specs.declared.message.Message.{Message}
use Rattle.cluster_types.specs.declared.entry.Input.TheVariants.{Open, Up, Down, In, Beat, Time}
use Rattle.cluster_types.specs.declared.entry.Entry.TheVariants.{Input, Hand, Settle}
use Rattle.cluster_defs.specs.Event.{event_of, is_db, is_request, is_reply, is_leave}
use Rattle.cluster_defs.specs.Points.{whole_timeouts, ends_in_name}
use Rattle.cluster_defs.specs.Submit.{read_submit}
use Rattle.cluster_defs.specs.Reply.{read_task, read_declined, read_status}
use Rattle.cluster_defs.specs.Hub.{request_of, read_content}
use Rattle.cluster_defs.specs.Header.{read_header}
use Rattle.cluster_defs.specs.Texts.{resubmit_id}
use Rattle.cluster_defs.specs.Acceptance.{reserved_front}
use Rattle.cluster_defs.specs.Histories.{History, kept}
use Rattle.cluster_defs.specs.Thin.{no_content, short_reply, thin}
use Rattle.worked_rows.proofs.Told.{message}

abbrev thin_row_m0 : Message
thin_row_m0 = message [] (codes "{\"msg_id\":\"join-e0\",\"msg_type\":\"registration_request\"}") (codes "{}") (codes "{}") (codes "{\"uuid\":\"e0\"}") []

abbrev thin_row_m1 : Message
thin_row_m1 = message [] (codes "{\"msg_id\":\"a\",\"msg_type\":\"execute_request\"}") (codes "{}") (codes "{}") (codes "{\"code\":\"6*7\"}") []

abbrev thin_row_m2 : Message
thin_row_m2 = message [] (codes "{\"msg_id\":\"r1\",\"msg_type\":\"execute_reply\"}") (codes "{\"msg_id\":\"a\"}") (codes "{}") (codes "{\"status\":\"ok\",\"result\":\"42\"}") []

abbrev thin_row_m3 : Message
thin_row_m3 = message [] (codes "{\"msg_id\":\"b\",\"msg_type\":\"execute_request\"}") (codes "{}") (codes "{}") (codes "{\"code\":\"6*7\"}") ((codes "x") ∷ [])

abbrev thin_row_m4 : Message
thin_row_m4 = message [] (codes "{\"msg_id\":\"r2\",\"msg_type\":\"execute_reply\"}") (codes "{\"msg_id\":\"b\"}") (codes "{}") (codes "{\"status\":\"ok\",\"result\":\"43\"}") ((codes "y") ∷ [])

abbrev thin_row_m5 : Message
thin_row_m5 = message [] (codes "{\"msg_id\":\"ask\",\"msg_type\":\"resubmit_request\"}") (codes "{}") (codes "{}") (codes "{\"msg_ids\":[\"b\"]}") []

abbrev thin_row_m6 : Message
thin_row_m6 = message [] (codes "{\"msg_id\":\"ask\",\"msg_type\":\"purge_request\"}") (codes "{}") (codes "{}") (codes "{\"msg_ids\":[\"a\",\"b\"]}") []

abbrev thin_row_m7 : Message
thin_row_m7 = message [] (codes "{\"msg_id\":\"a\",\"msg_type\":\"execute_request\"}") (codes "{}") (codes "{}") (codes "{}") []

abbrev thin_row_m8 : Message
thin_row_m8 = message [] (codes "{\"msg_id\":\"r1\",\"msg_type\":\"execute_reply\"}") (codes "{\"msg_id\":\"a\"}") (codes "{}") (codes "{\"status\":\"ok\"}") []

abbrev thin_row_m9 : Message
thin_row_m9 = message [] (codes "{\"msg_id\":\"r2\",\"msg_type\":\"execute_reply\"}") (codes "{\"msg_id\":\"b\"}") (codes "{}") (codes "{\"status\":\"ok\"}") []

-- `a` and `b` are purged: the content of `a` goes, that of `b` stays for its copy; both replies keep their status alone
abbrev thin_row : History
thin_row =
    Input (In 4 0 0 thin_row_m6)
    ∷ Hand (codes "resubmit:3") 0
    ∷ Input (In 4 0 0 thin_row_m5)
    ∷ Settle (codes "b") Completed ByReply
    ∷ Input (In 1 0 0 thin_row_m4)
    ∷ Input (Up 4 Hub 0 0 (codes "h"))
    ∷ Hand (codes "b") 0
    ∷ Input (In 2 0 0 thin_row_m3)
    ∷ Settle (codes "a") Completed ByReply
    ∷ Input (In 1 0 0 thin_row_m2)
    ∷ Hand (codes "a") 0
    ∷ Input (In 2 0 0 thin_row_m1)
    ∷ Input (Up 2 Task 0 0 (codes "c"))
    ∷ Input (In 1 0 0 thin_row_m0)
    ∷ Input (Up 1 Engine 0 0 (codes "e"))
    ∷ Input (Open 0 LeastLoad 1 10)
    ∷ []

abbrev thin_row_left : History
thin_row_left =
    Input (In 4 0 0 thin_row_m6)
    ∷ Hand (codes "resubmit:3") 0
    ∷ Input (In 4 0 0 thin_row_m5)
    ∷ Settle (codes "b") Completed ByReply
    ∷ Input (In 1 0 0 thin_row_m9)
    ∷ Input (Up 4 Hub 0 0 (codes "h"))
    ∷ Hand (codes "b") 0
    ∷ Input (In 2 0 0 thin_row_m3)
    ∷ Settle (codes "a") Completed ByReply
    ∷ Input (In 1 0 0 thin_row_m8)
    ∷ Hand (codes "a") 0
    ∷ Input (In 2 0 0 thin_row_m7)
    ∷ Input (Up 2 Task 0 0 (codes "c"))
    ∷ Input (In 1 0 0 thin_row_m0)
    ∷ Input (Up 1 Engine 0 0 (codes "e"))
    ∷ Input (Open 0 LeastLoad 1 10)
    ∷ []

pub thin_row_kept : kept thin_row ≡ thin_row
unfolding serde_json_on_literals is_utf8 chars event_of read_header is_request is_reply is_leave read_submit whole_timeouts ends_in_name is_db request_of read_content read_task read_declined read_status reserved_front resubmit_id digits
thin_row_kept = refl

pub thin_row_thin : thin thin_row ≡ thin_row_left
unfolding serde_json_on_literals is_utf8 chars event_of read_header is_request is_reply is_leave read_submit whole_timeouts ends_in_name is_db request_of read_content read_task read_declined read_status reserved_front resubmit_id digits no_content short_reply
thin_row_thin = refl

abbrev thin_6_m0 : Message
thin_6_m0 = message [] (codes "{\"msg_id\":\"j1\",\"msg_type\":\"registration_request\"}") (codes "{}") (codes "{}") (codes "{\"uuid\":\"e0\"}") []

abbrev thin_6_m1 : Message
thin_6_m1 = message [] (codes "{\"msg_id\":\"j2\",\"msg_type\":\"registration_request\"}") (codes "{}") (codes "{}") (codes "{\"uuid\":\"e1\"}") []

abbrev thin_6_m2 : Message
thin_6_m2 = message (codes "e1") (codes "{\"msg_id\":\"d3\",\"msg_type\":\"execute_request\"}") (codes "{}") (codes "{}") (codes "{\"code\":\"1\"}") []

abbrev thin_6_m3 : Message
thin_6_m3 = message [] (codes "{\"msg_id\":\"r5\",\"msg_type\":\"apply_reply\"}") (codes "{\"msg_id\":\"d3\",\"x\":1}") (codes "{}") (codes "{\"status\":\"ok\",\"result\":\"42\"}") []

abbrev thin_6_m4 : Message
thin_6_m4 = message [] (codes "{\"msg_id\":\"l6\",\"msg_type\":\"unregistration_request\"}") (codes "{}") (codes "{}") (codes "{}") []

abbrev thin_6_m5 : Message
thin_6_m5 = message (codes "e1") (codes "{\"msg_id\":\"d8\",\"msg_type\":\"execute_request\"}") (codes "{}") (codes "{}") (codes "{\"code\":\"1\"}") []

abbrev thin_6_m6 : Message
thin_6_m6 = message [] (codes "{\"msg_id\":\"q9\",\"msg_type\":\"purge_request\"}") (codes "{}") (codes "{}") (codes "{\"msg_ids\":[\"d3\",\"d3\"]}") []

abbrev thin_6_m7 : Message
thin_6_m7 = message [] (codes "{\"msg_id\":\"q11\",\"msg_type\":\"resubmit_request\"}") (codes "{}") (codes "{}") (codes "{\"msg_ids\":[]}") []

abbrev thin_6_m8 : Message
thin_6_m8 = message [] (codes "{\"msg_id\":\"t16\",\"msg_type\":\"apply_request\",\"session\":\"s\",\"username\":\"u\"}") (codes "{}") (codes "{\"after\":{\"dependencies\":[\"d3\",\"d3\",\"d8\"],\"failure\":true},\"follow\":{\"dependencies\":[\"d8\"],\"success\":true,\"failure\":false}}") (codes "{\"code\":\"1+1\"}") []

abbrev thin_6_m9 : Message
thin_6_m9 = message [] (codes "{\"msg_id\":\"r10\",\"msg_type\":\"apply_reply\"}") (codes "{\"msg_id\":\"d8\",\"x\":1}") (codes "{\"dependencies_met\":true}") (codes "{\"status\":\"ok\",\"result\":\"42\"}") ((codes "b") ∷ [])

abbrev thin_6_m10 : Message
thin_6_m10 = message [] (codes "{\"msg_id\":\"r18\",\"msg_type\":\"apply_reply\"}") (codes "{\"msg_id\":\"t16\",\"x\":1}") (codes "{\"started\":\"x\"}") (codes "{\"status\":\"ok\",\"result\":\"42\"}") []

abbrev thin_6_m11 : Message
thin_6_m11 = message (codes "e1") (codes "{\"msg_id\":\"d3\",\"msg_type\":\"execute_request\"}") (codes "{}") (codes "{}") (codes "{}") []

abbrev thin_6_m12 : Message
thin_6_m12 = message [] (codes "{\"msg_id\":\"r5\",\"msg_type\":\"apply_reply\"}") (codes "{\"msg_id\":\"d3\",\"x\":1}") (codes "{}") (codes "{\"status\":\"ok\"}") []

-- 2 of 29 entries are cut
abbrev thin_6 : History
thin_6 =
    Input (Down 3 229050798091 0)
    ∷ Settle (codes "t16") Completed ByReply
    ∷ Input (In 5 229050798090 2432305870980416900 thin_6_m10)
    ∷ Hand (codes "t16") 1
    ∷ Settle (codes "d8") Completed ByReply
    ∷ Input (In 5 229050738090 8203180991357785710 thin_6_m9)
    ∷ Input (In 6 229050735090 0 thin_6_m8)
    ∷ Input (In 8 229050675089 1885196609006659540 thin_6_m7)
    ∷ Input (In 8 229050672089 0 thin_6_m6)
    ∷ Hand (codes "d8") 1
    ∷ Input (In 7 229050672089 9293327494187269462 thin_6_m5)
    ∷ Input (In 3 229050672089 12421058418585481792 thin_6_m4)
    ∷ Settle (codes "d3") Completed ByReply
    ∷ Input (In 5 229050672089 8325430509371743669 thin_6_m3)
    ∷ Hand (codes "d3") 1
    ∷ Input (In 7 229050672089 15907586620445994956 thin_6_m2)
    ∷ Input (Up 8 Hub 0 0 (codes "d"))
    ∷ Input (Up 7 Mux 0 0 (codes "conn-7"))
    ∷ Input (Up 6 Task 0 0 (codes "x6"))
    ∷ Input (In 5 0 0 thin_6_m1)
    ∷ Input (Up 5 Engine 0 0 (codes "conn-5"))
    ∷ Input (In 3 0 0 thin_6_m0)
    ∷ Input (Up 3 Engine 0 0 (codes "x3"))
    ∷ Input (Open 0 PlainRandom 0 1)
    ∷ []

abbrev thin_6_left : History
thin_6_left =
    Input (Down 3 229050798091 0)
    ∷ Settle (codes "t16") Completed ByReply
    ∷ Input (In 5 229050798090 2432305870980416900 thin_6_m10)
    ∷ Hand (codes "t16") 1
    ∷ Settle (codes "d8") Completed ByReply
    ∷ Input (In 5 229050738090 8203180991357785710 thin_6_m9)
    ∷ Input (In 6 229050735090 0 thin_6_m8)
    ∷ Input (In 8 229050675089 1885196609006659540 thin_6_m7)
    ∷ Input (In 8 229050672089 0 thin_6_m6)
    ∷ Hand (codes "d8") 1
    ∷ Input (In 7 229050672089 9293327494187269462 thin_6_m5)
    ∷ Input (In 3 229050672089 12421058418585481792 thin_6_m4)
    ∷ Settle (codes "d3") Completed ByReply
    ∷ Input (In 5 229050672089 8325430509371743669 thin_6_m12)
    ∷ Hand (codes "d3") 1
    ∷ Input (In 7 229050672089 15907586620445994956 thin_6_m11)
    ∷ Input (Up 8 Hub 0 0 (codes "d"))
    ∷ Input (Up 7 Mux 0 0 (codes "conn-7"))
    ∷ Input (Up 6 Task 0 0 (codes "x6"))
    ∷ Input (In 5 0 0 thin_6_m1)
    ∷ Input (Up 5 Engine 0 0 (codes "conn-5"))
    ∷ Input (In 3 0 0 thin_6_m0)
    ∷ Input (Up 3 Engine 0 0 (codes "x3"))
    ∷ Input (Open 0 PlainRandom 0 1)
    ∷ []

pub thin_6_kept : kept thin_6 ≡ thin_6
unfolding serde_json_on_literals is_utf8 chars event_of read_header is_request is_reply is_leave read_submit whole_timeouts ends_in_name is_db request_of read_content read_task read_declined read_status reserved_front resubmit_id digits
thin_6_kept = refl

pub thin_6_thin : thin thin_6 ≡ thin_6_left
unfolding serde_json_on_literals is_utf8 chars event_of read_header is_request is_reply is_leave read_submit whole_timeouts ends_in_name is_db request_of read_content read_task read_declined read_status reserved_front resubmit_id digits no_content short_reply
thin_6_thin = refl

abbrev thin_22_m0 : Message
thin_22_m0 = message [] (codes "{\"msg_id\":\"j1\",\"msg_type\":\"registration_request\"}") (codes "{}") (codes "{}") (codes "{\"uuid\":\"engine \\u00e9\"}") []

abbrev thin_22_m1 : Message
thin_22_m1 = message [] (codes "{\"msg_id\":\"j2\",\"msg_type\":\"registration_request\"}") (codes "{}") (codes "{}") (codes "{\"uuid\":\"e1\"}") []

abbrev thin_22_m2 : Message
thin_22_m2 = message [] (codes "{\"msg_id\":\"t3\",\"msg_type\":\"apply_request\",\"session\":\"s\",\"username\":\"u\"}") (codes "{}") (codes "{\"after\":{\"dependencies\":[\"unknown\"],\"all\":true},\"retries\":null}") (codes "{\"code\":\"7+5\"}") []

abbrev thin_22_m3 : Message
thin_22_m3 = message [] (codes "{\"msg_id\":\"q4\",\"msg_type\":\"resubmit_request\"}") (codes "{}") (codes "{}") (codes "{\"msg_ids\":[\"t3\"]}") []

abbrev thin_22_m4 : Message
thin_22_m4 = message [] (codes "{\"msg_id\":\"l5\",\"msg_type\":\"unregistration_request\"}") (codes "{}") (codes "{}") (codes "{}") []

abbrev thin_22_m5 : Message
thin_22_m5 = message [] (codes "{\"msg_id\":\"q7\",\"msg_type\":\"purge_request\"}") (codes "{}") (codes "{}") (codes "{\"msg_ids\":[\"resubmit:2\",\"t3\"]}") []

abbrev thin_22_m6 : Message
thin_22_m6 = message [] (codes "{\"msg_id\":\"j8\",\"msg_type\":\"registration_request\"}") (codes "{}") (codes "{}") (codes "{\"uuid\":\"e0\"}") []

abbrev thin_22_m7 : Message
thin_22_m7 = message [] (codes "{\"msg_id\":\"q9\",\"msg_type\":\"resubmit_request\"}") (codes "{}") (codes "{}") (codes "{\"msg_ids\":[]}") []

abbrev thin_22_m8 : Message
thin_22_m8 = message [] (codes "{\"msg_id\":\"t3\",\"msg_type\":\"apply_request\",\"session\":\"s\",\"username\":\"u\"}") (codes "{}") (codes "{\"after\":{\"dependencies\":[\"unknown\"],\"all\":true},\"retries\":null}") (codes "{}") []

-- 1 of 17 entries are cut
abbrev thin_22 : History
thin_22 =
    Input (In 7 951837045670 0 thin_22_m7)
    ∷ Input (In 4 951837045170 5937930877419851935 thin_22_m6)
    ∷ Input (In 7 951837045170 4340879868583242253 thin_22_m5)
    ∷ Input (In 4 951836985170 12118372918440020932 thin_22_m4)
    ∷ Settle (codes "resubmit:2") Failed InvalidDependency
    ∷ Input (In 7 951836985170 0 thin_22_m3)
    ∷ Settle (codes "t3") Failed InvalidDependency
    ∷ Input (In 3 951836985170 5740245908664011867 thin_22_m2)
    ∷ Input (Up 7 Hub 0 0 (codes "conn-7"))
    ∷ Input (Up 6 Mux 0 0 (codes "conn-6"))
    ∷ Input (Up 5 Task 0 0 (154 ∷ []))
    ∷ Input (In 4 0 0 thin_22_m1)
    ∷ Input (Up 4 Engine 0 0 (codes "d"))
    ∷ Input (Up 3 Task 0 0 (codes "c"))
    ∷ Input (In 2 0 0 thin_22_m0)
    ∷ Input (Up 2 Engine 0 0 (codes "conn-2"))
    ∷ Input (Open 0 Lru 1 3)
    ∷ []

abbrev thin_22_left : History
thin_22_left =
    Input (In 7 951837045670 0 thin_22_m7)
    ∷ Input (In 4 951837045170 5937930877419851935 thin_22_m6)
    ∷ Input (In 7 951837045170 4340879868583242253 thin_22_m5)
    ∷ Input (In 4 951836985170 12118372918440020932 thin_22_m4)
    ∷ Settle (codes "resubmit:2") Failed InvalidDependency
    ∷ Input (In 7 951836985170 0 thin_22_m3)
    ∷ Settle (codes "t3") Failed InvalidDependency
    ∷ Input (In 3 951836985170 5740245908664011867 thin_22_m8)
    ∷ Input (Up 7 Hub 0 0 (codes "conn-7"))
    ∷ Input (Up 6 Mux 0 0 (codes "conn-6"))
    ∷ Input (Up 5 Task 0 0 (154 ∷ []))
    ∷ Input (In 4 0 0 thin_22_m1)
    ∷ Input (Up 4 Engine 0 0 (codes "d"))
    ∷ Input (Up 3 Task 0 0 (codes "c"))
    ∷ Input (In 2 0 0 thin_22_m0)
    ∷ Input (Up 2 Engine 0 0 (codes "conn-2"))
    ∷ Input (Open 0 Lru 1 3)
    ∷ []

pub thin_22_kept : kept thin_22 ≡ thin_22
unfolding serde_json_on_literals is_utf8 chars event_of read_header is_request is_reply is_leave read_submit whole_timeouts ends_in_name is_db request_of read_content read_task read_declined read_status reserved_front resubmit_id digits
thin_22_kept = refl

pub thin_22_thin : thin thin_22 ≡ thin_22_left
unfolding serde_json_on_literals is_utf8 chars event_of read_header is_request is_reply is_leave read_submit whole_timeouts ends_in_name is_db request_of read_content read_task read_declined read_status reserved_front resubmit_id digits no_content short_reply
thin_22_thin = refl

abbrev thin_25_m0 : Message
thin_25_m0 = message [] (codes "{\"msg_id\":\"j1\",\"msg_type\":\"registration_request\"}") (codes "{}") (codes "{}") (codes "{\"uuid\":\"e2\"}") []

abbrev thin_25_m1 : Message
thin_25_m1 = message [] (codes "{\"msg_id\":\"j2\",\"msg_type\":\"registration_request\"}") (codes "{}") (codes "{}") (codes "{\"uuid\":\"e4\"}") []

abbrev thin_25_m2 : Message
thin_25_m2 = message [] (codes "{\"msg_id\":\"t3\",\"msg_type\":\"apply_request\",\"session\":\"s\",\"username\":\"u\"}") (codes "{}") (codes "{\"after\":{\"dependencies\":[],\"success\":true,\"failure\":true},\"targets\":[\"e3\"],\"retries\":2}") (codes "{\"code\":\"2+3\"}") []

abbrev thin_25_m3 : Message
thin_25_m3 = message [] (codes "{\"msg_id\":\"t4\",\"msg_type\":\"apply_request\",\"session\":\"s\",\"username\":\"u\"}") (codes "{}") (codes "{\"after\":{\"dependencies\":[\"t3\",\"unknown\"],\"all\":false,\"success\":false},\"retries\":2,\"timeout\":0}") (codes "{\"code\":\"5+8\"}") []

abbrev thin_25_m4 : Message
thin_25_m4 = message [] (codes "{\"msg_id\":\"q6\",\"msg_type\":\"resubmit_request\"}") (codes "{}") (codes "{}") (codes "{\"msg_ids\":[\"t3\"]}") []

abbrev thin_25_m5 : Message
thin_25_m5 = message [] (codes "{\"msg_id\":\"q9\",\"msg_type\":\"purge_request\"}") (codes "{}") (codes "{}") (codes "{\"msg_ids\":[\"t3\",\"t4\"]}") []

abbrev thin_25_m6 : Message
thin_25_m6 = message (codes "junk") (codes "{\"msg_id\":\"t10\",\"msg_type\":\"apply_request\",\"session\":\"s\",\"username\":\"u\"}") (codes "{}") (codes "{\"follow\":[\"t3\",\"t3\",\"t4\"],\"timeout\":60}") (codes "{\"code\":\"0+8\"}") []

abbrev thin_25_m7 : Message
thin_25_m7 = message (codes "junk") (codes "{\"msg_id\":\"t11\",\"msg_type\":\"apply_request\",\"session\":\"s\",\"username\":\"u\"}") (codes "{}") (codes "{\"after\":\"t4\"}") (codes "{\"code\":\"7+6\"}") []

abbrev thin_25_m8 : Message
thin_25_m8 = message [] (codes "{\"msg_id\":\"q13\",\"msg_type\":\"resubmit_request\"}") (codes "{}") (codes "{}") (codes "{\"msg_ids\":[\"t11\",\"resubmit:3\"]}") []

abbrev thin_25_m9 : Message
thin_25_m9 = message [] (codes "{\"msg_id\":\"t15\",\"msg_type\":\"execute_request\",\"session\":\"s\",\"username\":\"u\"}") (codes "{}") (codes "{\"retries\":1}") (codes "{\"code\":\"2+3\"}") []

abbrev thin_25_m10 : Message
thin_25_m10 = message [] (codes "{\"msg_id\":\"t4\",\"msg_type\":\"apply_request\",\"session\":\"s\",\"username\":\"u\"}") (codes "{}") (codes "{\"after\":{\"dependencies\":[\"t3\",\"unknown\"],\"all\":false,\"success\":false},\"retries\":2,\"timeout\":0}") (codes "{}") []

-- 2 of 32 entries are cut
abbrev thin_25 : History
thin_25 =
    Hand (codes "t15") 0
    ∷ Input (In 23 1640732205763 12232947974457566858 thin_25_m9)
    ∷ Settle (codes "resubmit:7") Failed ImpossibleDependency
    ∷ Settle (codes "resubmit:6") Failed ImpossibleDependency
    ∷ Input (In 31 1640732205263 0 thin_25_m8)
    ∷ Input (Up 38 Task 1640732205263 2757505017548308191 (codes "c"))
    ∷ Settle (codes "t11") Failed ImpossibleDependency
    ∷ Input (In 23 1640732145263 3403288376408530676 thin_25_m7)
    ∷ Settle (codes "t10") Failed ImpossibleDependency
    ∷ Input (In 23 1640732145263 0 thin_25_m6)
    ∷ Input (In 31 1640732145263 10644372813079231885 thin_25_m5)
    ∷ Settle (codes "resubmit:3") Failed ImpossibleDependency
    ∷ Input (In 31 1640732145263 10644372813079231885 thin_25_m4)
    ∷ Input (Up 30 Mux 1640732085263 17860735397586143617 (codes "d"))
    ∷ Input (Time 1640732024763 15715077811752530052)
    ∷ Input (Time 1640732021763 7892464321912849821)
    ∷ Settle (codes "t4") Failed InvalidDependency
    ∷ Input (In 23 1640732018763 5048722838333025684 thin_25_m3)
    ∷ Settle (codes "t3") Failed ImpossibleDependency
    ∷ Input (In 23 1640732018762 0 thin_25_m2)
    ∷ Input (Up 31 Hub 0 0 (codes "c"))
    ∷ Input (Up 23 Task 0 0 (codes "c"))
    ∷ Input (In 16 0 0 thin_25_m1)
    ∷ Input (Up 16 Engine 0 0 (codes "d"))
    ∷ Input (Up 9 Task 0 0 (codes "d"))
    ∷ Input (In 2 0 0 thin_25_m0)
    ∷ Input (Up 2 Engine 0 0 (codes "conn-2"))
    ∷ Input (Open 0 PlainRandom 1 2)
    ∷ []

abbrev thin_25_left : History
thin_25_left =
    Hand (codes "t15") 0
    ∷ Input (In 23 1640732205763 12232947974457566858 thin_25_m9)
    ∷ Settle (codes "resubmit:7") Failed ImpossibleDependency
    ∷ Settle (codes "resubmit:6") Failed ImpossibleDependency
    ∷ Input (In 31 1640732205263 0 thin_25_m8)
    ∷ Input (Up 38 Task 1640732205263 2757505017548308191 (codes "c"))
    ∷ Settle (codes "t11") Failed ImpossibleDependency
    ∷ Input (In 23 1640732145263 3403288376408530676 thin_25_m7)
    ∷ Settle (codes "t10") Failed ImpossibleDependency
    ∷ Input (In 23 1640732145263 0 thin_25_m6)
    ∷ Input (In 31 1640732145263 10644372813079231885 thin_25_m5)
    ∷ Settle (codes "resubmit:3") Failed ImpossibleDependency
    ∷ Input (In 31 1640732145263 10644372813079231885 thin_25_m4)
    ∷ Input (Up 30 Mux 1640732085263 17860735397586143617 (codes "d"))
    ∷ Input (Time 1640732024763 15715077811752530052)
    ∷ Input (Time 1640732021763 7892464321912849821)
    ∷ Settle (codes "t4") Failed InvalidDependency
    ∷ Input (In 23 1640732018763 5048722838333025684 thin_25_m10)
    ∷ Settle (codes "t3") Failed ImpossibleDependency
    ∷ Input (In 23 1640732018762 0 thin_25_m2)
    ∷ Input (Up 31 Hub 0 0 (codes "c"))
    ∷ Input (Up 23 Task 0 0 (codes "c"))
    ∷ Input (In 16 0 0 thin_25_m1)
    ∷ Input (Up 16 Engine 0 0 (codes "d"))
    ∷ Input (Up 9 Task 0 0 (codes "d"))
    ∷ Input (In 2 0 0 thin_25_m0)
    ∷ Input (Up 2 Engine 0 0 (codes "conn-2"))
    ∷ Input (Open 0 PlainRandom 1 2)
    ∷ []

pub thin_25_kept : kept thin_25 ≡ thin_25
unfolding serde_json_on_literals is_utf8 chars event_of read_header is_request is_reply is_leave read_submit whole_timeouts ends_in_name is_db request_of read_content read_task read_declined read_status reserved_front resubmit_id digits
thin_25_kept = refl

pub thin_25_thin : thin thin_25 ≡ thin_25_left
unfolding serde_json_on_literals is_utf8 chars event_of read_header is_request is_reply is_leave read_submit whole_timeouts ends_in_name is_db request_of read_content read_task read_declined read_status reserved_front resubmit_id digits no_content short_reply
thin_25_thin = refl

abbrev thin_27_m0 : Message
thin_27_m0 = message [] (codes "{\"msg_id\":\"j2\",\"msg_type\":\"registration_request\"}") (codes "{}") (codes "{}") (codes "{\"uuid\":\"e2\"}") []

abbrev thin_27_m1 : Message
thin_27_m1 = message [] (codes "{\"msg_id\":\"t3\",\"msg_type\":\"apply_request\",\"session\":\"s\",\"username\":\"u\"}") (codes "{}") (codes "{\"after\":{\"dependencies\":[],\"all\":false,\"success\":true},\"targets\":[\"e0\",\"e0\"],\"retries\":1}") (codes "{\"code\":\"5+2\"}") []

abbrev thin_27_m2 : Message
thin_27_m2 = message [] (codes "{\"msg_id\":\"j1\",\"msg_type\":\"registration_request\"}") (codes "{}") (codes "{}") (codes "{\"uuid\":\"engine \\u00e9\"}") []

abbrev thin_27_m3 : Message
thin_27_m3 = message [] (codes "{\"msg_id\":\"t8\",\"msg_type\":\"apply_request\",\"session\":\"s\",\"username\":\"u\"}") (codes "{}") (codes "{\"retries\":5,\"timeout\":1}") (codes "{\"code\":\"6+0\"}") []

abbrev thin_27_m4 : Message
thin_27_m4 = message [] (codes "{\"msg_id\":\"q9\",\"msg_type\":\"resubmit_request\"}") (codes "{}") (codes "{}") (codes "{\"msg_ids\":[\"t3\"]}") []

abbrev thin_27_m5 : Message
thin_27_m5 = message (101 ∷ 110 ∷ 103 ∷ 105 ∷ 110 ∷ 101 ∷ 32 ∷ 195 ∷ 169 ∷ []) (codes "{\"msg_id\":\"d11\",\"msg_type\":\"execute_request\"}") (codes "{}") (codes "{}") (codes "{\"code\":\"1\"}") []

abbrev thin_27_m6 : Message
thin_27_m6 = message [] (codes "{\"msg_id\":\"r12\",\"msg_type\":\"apply_reply\"}") (codes "{\"msg_id\":\"d11\",\"x\":1}") (codes "{}") (codes "{\"status\":\"error\",\"result\":\"42\"}") []

abbrev thin_27_m7 : Message
thin_27_m7 = message [] (codes "{\"msg_id\":\"r13\",\"msg_type\":\"execute_reply\"}") (codes "{\"msg_id\":\"t8\",\"x\":1}") (codes "{\"dependencies_met\":true}") (codes "{\"status\":\"ok\",\"result\":\"42\"}") []

abbrev thin_27_m8 : Message
thin_27_m8 = message [] (codes "{\"msg_id\":\"t14\",\"msg_type\":\"execute_request\",\"session\":\"s\",\"username\":\"u\"}") (codes "{}") (codes "{\"after\":[\"t8\"],\"retries\":0}") (codes "{\"code\":\"3+2\"}") []

abbrev thin_27_m9 : Message
thin_27_m9 = message [] (codes "{\"msg_id\":\"t15\",\"msg_type\":\"execute_request\",\"session\":\"s\",\"username\":\"u\"}") (codes "{}") (codes "{\"after\":[\"t3\"],\"retries\":2}") (codes "{\"code\":\"2+1\"}") ((codes "buf") ∷ (codes "buf") ∷ [])

abbrev thin_27_m10 : Message
thin_27_m10 = message (codes "e2") (codes "{\"msg_id\":\"d16\",\"msg_type\":\"execute_request\"}") (codes "{}") (codes "{}") (codes "{\"code\":\"1\"}") []

abbrev thin_27_m11 : Message
thin_27_m11 = message [] (codes "{\"msg_id\":\"r18\",\"msg_type\":\"execute_reply\"}") (codes "{\"msg_id\":\"d16\",\"x\":1}") (codes "{}") (codes "{\"status\":\"ok\",\"result\":\"42\"}") ((codes "b") ∷ (codes "b") ∷ (codes "b") ∷ (codes "b") ∷ (codes "b") ∷ (codes "b") ∷ (codes "b") ∷ (codes "b") ∷ (codes "b") ∷ (codes "b") ∷ (codes "b") ∷ (codes "b") ∷ (codes "b") ∷ (codes "b") ∷ (codes "b") ∷ (codes "b") ∷ (codes "b") ∷ (codes "b") ∷ (codes "b") ∷ (codes "b") ∷ (codes "b") ∷ (codes "b") ∷ (codes "b") ∷ (codes "b") ∷ (codes "b") ∷ (codes "b") ∷ (codes "b") ∷ (codes "b") ∷ (codes "b") ∷ (codes "b") ∷ (codes "b") ∷ (codes "b") ∷ (codes "b") ∷ (codes "b") ∷ (codes "b") ∷ (codes "b") ∷ (codes "b") ∷ (codes "b") ∷ (codes "b") ∷ (codes "b") ∷ (codes "b") ∷ (codes "b") ∷ (codes "b") ∷ (codes "b") ∷ (codes "b") ∷ (codes "b") ∷ (codes "b") ∷ (codes "b") ∷ (codes "b") ∷ (codes "b") ∷ (codes "b") ∷ (codes "b") ∷ (codes "b") ∷ (codes "b") ∷ (codes "b") ∷ (codes "b") ∷ (codes "b") ∷ (codes "b") ∷ [])

abbrev thin_27_m12 : Message
thin_27_m12 = message [] (codes "{\"msg_id\":\"r20\",\"msg_type\":\"execute_reply\"}") (codes "{\"msg_id\":\"t14\",\"x\":1}") (codes "{\"dependencies_met\":true}") (codes "{\"status\":\"ok\",\"result\":\"42\"}") []

abbrev thin_27_m13 : Message
thin_27_m13 = message [] (codes "{\"msg_id\":\"q21\",\"msg_type\":\"purge_request\"}") (codes "{}") (codes "{}") (codes "{\"msg_ids\":[\"d16\",\"t15\",\"d11\",\"t3\",\"t3\"]}") []

abbrev thin_27_m14 : Message
thin_27_m14 = message (101 ∷ 110 ∷ 103 ∷ 105 ∷ 110 ∷ 101 ∷ 32 ∷ 195 ∷ 169 ∷ []) (codes "{\"msg_id\":\"d11\",\"msg_type\":\"execute_request\"}") (codes "{}") (codes "{}") (codes "{}") []

abbrev thin_27_m15 : Message
thin_27_m15 = message [] (codes "{\"msg_id\":\"r12\",\"msg_type\":\"apply_reply\"}") (codes "{\"msg_id\":\"d11\",\"x\":1}") (codes "{}") (codes "{\"status\":\"error\"}") []

abbrev thin_27_m16 : Message
thin_27_m16 = message [] (codes "{\"msg_id\":\"t15\",\"msg_type\":\"execute_request\",\"session\":\"s\",\"username\":\"u\"}") (codes "{}") (codes "{\"after\":[\"t3\"],\"retries\":2}") (codes "{}") []

abbrev thin_27_m17 : Message
thin_27_m17 = message (codes "e2") (codes "{\"msg_id\":\"d16\",\"msg_type\":\"execute_request\"}") (codes "{}") (codes "{}") (codes "{}") []

abbrev thin_27_m18 : Message
thin_27_m18 = message [] (codes "{\"msg_id\":\"r18\",\"msg_type\":\"execute_reply\"}") (codes "{\"msg_id\":\"d16\",\"x\":1}") (codes "{}") (codes "{\"status\":\"ok\"}") []

-- 1 of 39 entries are cut
abbrev thin_27 : History
thin_27 =
    Input (In 18 1197984210247 5058357542234653609 thin_27_m13)
    ∷ Settle (codes "t14") Completed ByReply
    ∷ Input (In 1 1197984210247 0 thin_27_m12)
    ∷ Input (Beat 1197984207247 8077750658613483716)
    ∷ Settle (codes "d16") Completed ByReply
    ∷ Input (In 3 1197984207246 0 thin_27_m11)
    ∷ Hand (codes "d16") 0
    ∷ Input (In 17 1197984207245 4620181390618589771 thin_27_m10)
    ∷ Settle (codes "t15") Failed ImpossibleDependency
    ∷ Input (In 10 1197984207245 11392256727455492625 thin_27_m9)
    ∷ Hand (codes "t14") 1
    ∷ Input (In 2 1197984207245 17776756440228923240 thin_27_m8)
    ∷ Settle (codes "t8") Completed ByReply
    ∷ Input (In 3 1197984207245 6779896611098879126 thin_27_m7)
    ∷ Settle (codes "d11") Failed ByReply
    ∷ Input (In 1 1197984207245 9691289734819360545 thin_27_m6)
    ∷ Hand (codes "d11") 1
    ∷ Input (In 17 1197984207245 0 thin_27_m5)
    ∷ Settle (codes "resubmit:3") Failed ImpossibleDependency
    ∷ Input (In 18 1197984207245 9712845903398707001 thin_27_m4)
    ∷ Hand (codes "t8") 0
    ∷ Input (In 10 1197984204245 12469999958764715692 thin_27_m3)
    ∷ Input (Up 2 Task 1197984084245 0 (codes "d"))
    ∷ Input (In 1 1197984084244 11862778480566242734 thin_27_m2)
    ∷ Input (Up 18 Hub 1197984084244 3603242181291114405 (codes "c"))
    ∷ Settle (codes "t3") Failed ImpossibleDependency
    ∷ Input (In 10 1197984024244 4428412856812487752 thin_27_m1)
    ∷ Input (Time 1197984023744 14954152736664859257)
    ∷ Input (Up 17 Mux 0 0 (codes "conn-17"))
    ∷ Input (Up 10 Task 0 0 (codes "c"))
    ∷ Input (In 3 0 0 thin_27_m0)
    ∷ Input (Up 3 Engine 0 0 (235 ∷ []))
    ∷ Input (Up 1 Engine 0 0 (codes "conn-1"))
    ∷ Input (Open 0 LeastLoad 1 2)
    ∷ []

abbrev thin_27_left : History
thin_27_left =
    Input (In 18 1197984210247 5058357542234653609 thin_27_m13)
    ∷ Settle (codes "t14") Completed ByReply
    ∷ Input (In 1 1197984210247 0 thin_27_m12)
    ∷ Input (Beat 1197984207247 8077750658613483716)
    ∷ Settle (codes "d16") Completed ByReply
    ∷ Input (In 3 1197984207246 0 thin_27_m18)
    ∷ Hand (codes "d16") 0
    ∷ Input (In 17 1197984207245 4620181390618589771 thin_27_m17)
    ∷ Settle (codes "t15") Failed ImpossibleDependency
    ∷ Input (In 10 1197984207245 11392256727455492625 thin_27_m16)
    ∷ Hand (codes "t14") 1
    ∷ Input (In 2 1197984207245 17776756440228923240 thin_27_m8)
    ∷ Settle (codes "t8") Completed ByReply
    ∷ Input (In 3 1197984207245 6779896611098879126 thin_27_m7)
    ∷ Settle (codes "d11") Failed ByReply
    ∷ Input (In 1 1197984207245 9691289734819360545 thin_27_m15)
    ∷ Hand (codes "d11") 1
    ∷ Input (In 17 1197984207245 0 thin_27_m14)
    ∷ Settle (codes "resubmit:3") Failed ImpossibleDependency
    ∷ Input (In 18 1197984207245 9712845903398707001 thin_27_m4)
    ∷ Hand (codes "t8") 0
    ∷ Input (In 10 1197984204245 12469999958764715692 thin_27_m3)
    ∷ Input (Up 2 Task 1197984084245 0 (codes "d"))
    ∷ Input (In 1 1197984084244 11862778480566242734 thin_27_m2)
    ∷ Input (Up 18 Hub 1197984084244 3603242181291114405 (codes "c"))
    ∷ Settle (codes "t3") Failed ImpossibleDependency
    ∷ Input (In 10 1197984024244 4428412856812487752 thin_27_m1)
    ∷ Input (Time 1197984023744 14954152736664859257)
    ∷ Input (Up 17 Mux 0 0 (codes "conn-17"))
    ∷ Input (Up 10 Task 0 0 (codes "c"))
    ∷ Input (In 3 0 0 thin_27_m0)
    ∷ Input (Up 3 Engine 0 0 (235 ∷ []))
    ∷ Input (Up 1 Engine 0 0 (codes "conn-1"))
    ∷ Input (Open 0 LeastLoad 1 2)
    ∷ []

pub thin_27_kept : kept thin_27 ≡ thin_27
unfolding serde_json_on_literals is_utf8 chars event_of read_header is_request is_reply is_leave read_submit whole_timeouts ends_in_name is_db request_of read_content read_task read_declined read_status reserved_front resubmit_id digits
thin_27_kept = refl

pub thin_27_thin : thin thin_27 ≡ thin_27_left
unfolding serde_json_on_literals is_utf8 chars event_of read_header is_request is_reply is_leave read_submit whole_timeouts ends_in_name is_db request_of read_content read_task read_declined read_status reserved_front resubmit_id digits no_content short_reply
thin_27_thin = refl

abbrev thin_29_m0 : Message
thin_29_m0 = message [] (codes "{\"msg_id\":\"j1\",\"msg_type\":\"registration_request\"}") (codes "{}") (codes "{}") (codes "{\"uuid\":\"e2\"}") []

abbrev thin_29_m1 : Message
thin_29_m1 = message [] (codes "{\"msg_id\":\"j2\",\"msg_type\":\"registration_request\"}") (codes "{}") (codes "{}") (codes "{\"uuid\":\"e1\"}") []

abbrev thin_29_m2 : Message
thin_29_m2 = message (codes "e1") (codes "{\"msg_id\":\"d6\",\"msg_type\":\"execute_request\"}") (codes "{}") (codes "{}") (codes "{\"code\":\"1\"}") []

abbrev thin_29_m3 : Message
thin_29_m3 = message [] (codes "{\"msg_id\":\"t3\",\"msg_type\":\"execute_request\",\"session\":\"s\",\"username\":\"u\"}") (codes "{}") (codes "{\"timeout\": 44.0, \"retries\": 1}") (codes "{\"code\":\"7+0\"}") []

abbrev thin_29_m4 : Message
thin_29_m4 = message [] (codes "{\"msg_id\":\"t9\",\"msg_type\":\"execute_request\",\"session\":\"t9\"}") (codes "{}") (123 ∷ 34 ∷ 120 ∷ 34 ∷ 58 ∷ 9 ∷ 13 ∷ 10 ∷ 32 ∷ 110 ∷ 117 ∷ 108 ∷ 108 ∷ 32 ∷ 125 ∷ []) (codes "{}") []

abbrev thin_29_m5 : Message
thin_29_m5 = message [] (codes "{\"msg_id\":\"r7\",\"msg_type\":\"execute_reply\"}") (codes "{\"msg_id\":\"d6\",\"x\":1}") (codes "{}") (codes "{\"status\":\"abort\",\"result\":\"42\"}") []

abbrev thin_29_m6 : Message
thin_29_m6 = message [] (codes "{\"msg_id\":\"r12\",\"msg_type\":\"execute_reply\"}") (codes "{\"msg_id\":\"t3\",\"x\":1}") (codes "{\"dependencies_met\":true}") (codes "{\"status\":\"ok\",\"result\":\"42\"}") ((codes "b") ∷ (codes "b") ∷ (codes "b") ∷ (codes "b") ∷ (codes "b") ∷ (codes "b") ∷ (codes "b") ∷ (codes "b") ∷ (codes "b") ∷ (codes "b") ∷ (codes "b") ∷ (codes "b") ∷ (codes "b") ∷ (codes "b") ∷ (codes "b") ∷ (codes "b") ∷ (codes "b") ∷ (codes "b") ∷ (codes "b") ∷ (codes "b") ∷ (codes "b") ∷ (codes "b") ∷ (codes "b") ∷ (codes "b") ∷ (codes "b") ∷ (codes "b") ∷ (codes "b") ∷ (codes "b") ∷ (codes "b") ∷ (codes "b") ∷ (codes "b") ∷ (codes "b") ∷ (codes "b") ∷ (codes "b") ∷ (codes "b") ∷ (codes "b") ∷ (codes "b") ∷ (codes "b") ∷ (codes "b") ∷ (codes "b") ∷ (codes "b") ∷ (codes "b") ∷ (codes "b") ∷ (codes "b") ∷ (codes "b") ∷ (codes "b") ∷ (codes "b") ∷ (codes "b") ∷ (codes "b") ∷ (codes "b") ∷ (codes "b") ∷ (codes "b") ∷ (codes "b") ∷ (codes "b") ∷ (codes "b") ∷ (codes "b") ∷ (codes "b") ∷ (codes "b") ∷ [])

abbrev thin_29_m7 : Message
thin_29_m7 = message (codes "e1") (codes "{\"msg_id\":\"d14\",\"msg_type\":\"execute_request\"}") (codes "{}") (codes "{}") (codes "{\"code\":\"1\"}") []

abbrev thin_29_m8 : Message
thin_29_m8 = message [] (codes "{\"msg_id\":\"q4\",\"msg_type\":\"purge_request\"}") (codes "{}") (codes "{}") (codes "{\"msg_ids\":[\"d14\",\"d14\",\"d6\",\"d14\",\"t3\"]}") []

abbrev thin_29_m9 : Message
thin_29_m9 = message [] (codes "{\"msg_id\":\"t7\",\"msg_type\":\"apply_request\",\"session\":\"s\",\"username\":\"u\"}") (codes "{}") (codes "{\"after\":{\"dependencies\":[]},\"targets\":[\"e0\"],\"retries\":1}") (codes "{\"code\":\"8+8\"}") []

abbrev thin_29_m10 : Message
thin_29_m10 = message (codes "e1") (codes "{\"msg_id\":\"d6\",\"msg_type\":\"execute_request\"}") (codes "{}") (codes "{}") (codes "{}") []

abbrev thin_29_m11 : Message
thin_29_m11 = message [] (codes "{\"msg_id\":\"t3\",\"msg_type\":\"execute_request\",\"session\":\"s\",\"username\":\"u\"}") (codes "{}") (codes "{\"timeout\": 44.0, \"retries\": 1}") (codes "{}") []

abbrev thin_29_m12 : Message
thin_29_m12 = message [] (codes "{\"msg_id\":\"r7\",\"msg_type\":\"execute_reply\"}") (codes "{\"msg_id\":\"d6\",\"x\":1}") (codes "{}") (codes "{\"status\":\"error\"}") []

abbrev thin_29_m13 : Message
thin_29_m13 = message [] (codes "{\"msg_id\":\"r12\",\"msg_type\":\"execute_reply\"}") (codes "{\"msg_id\":\"t3\",\"x\":1}") (codes "{\"dependencies_met\":true}") (codes "{\"status\":\"ok\"}") []

abbrev thin_29_m14 : Message
thin_29_m14 = message (codes "e1") (codes "{\"msg_id\":\"d14\",\"msg_type\":\"execute_request\"}") (codes "{}") (codes "{}") (codes "{}") []

-- 5 of 33 entries are cut
abbrev thin_29 : History
thin_29 =
    Settle (codes "t7") Failed ImpossibleDependency
    ∷ Input (In 11 527714387286 0 thin_29_m9)
    ∷ Input (In 19 527714321286 2567820468531551805 thin_29_m8)
    ∷ Input (Up 19 Hub 527714321286 2567820468531551805 (codes "conn-19"))
    ∷ Input (Up 12 Mux 0 0 (235 ∷ []))
    ∷ Input (Up 11 Task 0 0 (codes "qqqqqqqqqqqqqqqqqqqqqqqqqqqqqqqqqqqqqqqqqqqqqqqqqqqqqqqqqqqqqqqqqqqqqqqqqqqqqqqqqqqqqqqqqqqqqqqqqqqqqqqqqqqqqqqqqqqqqqqqqqqqqqqqqqqqqqqqqqqqqqqqqqqqqqqqqqqqqqqqqqqqqqqqqqqqqqqqqqqqqqqqqqqqqqqqqqqqqqqqqqqqqqqqqqqqqqqqqqqqqqqqqqqqqqqqqqqqqqqqqqqqqqqqqqqqqqq"))
    ∷ Input (Up 4 Engine 0 0 (202 ∷ 202 ∷ 202 ∷ 202 ∷ 202 ∷ 202 ∷ 202 ∷ 202 ∷ 202 ∷ 202 ∷ 202 ∷ 202 ∷ 202 ∷ 202 ∷ 202 ∷ 202 ∷ 202 ∷ 202 ∷ 202 ∷ 202 ∷ 202 ∷ 202 ∷ 202 ∷ 202 ∷ 202 ∷ 202 ∷ 202 ∷ 202 ∷ 202 ∷ 202 ∷ 202 ∷ 202 ∷ 202 ∷ 202 ∷ 202 ∷ 202 ∷ 202 ∷ 202 ∷ 202 ∷ 202 ∷ 202 ∷ 202 ∷ 202 ∷ 202 ∷ 202 ∷ 202 ∷ 202 ∷ 202 ∷ 202 ∷ 202 ∷ 202 ∷ 202 ∷ 202 ∷ 202 ∷ 202 ∷ 202 ∷ 202 ∷ 202 ∷ 202 ∷ 202 ∷ 202 ∷ 202 ∷ 202 ∷ 202 ∷ 202 ∷ 202 ∷ 202 ∷ 202 ∷ 202 ∷ 202 ∷ 202 ∷ 202 ∷ 202 ∷ 202 ∷ 202 ∷ 202 ∷ 202 ∷ 202 ∷ 202 ∷ 202 ∷ 202 ∷ 202 ∷ 202 ∷ 202 ∷ 202 ∷ 202 ∷ 202 ∷ 202 ∷ 202 ∷ 202 ∷ 202 ∷ 202 ∷ 202 ∷ 202 ∷ 202 ∷ 202 ∷ 202 ∷ 202 ∷ 202 ∷ 202 ∷ 202 ∷ 202 ∷ 202 ∷ 202 ∷ 202 ∷ 202 ∷ 202 ∷ 202 ∷ 202 ∷ 202 ∷ 202 ∷ 202 ∷ 202 ∷ 202 ∷ 202 ∷ 202 ∷ 202 ∷ 202 ∷ 202 ∷ 202 ∷ 202 ∷ 202 ∷ 202 ∷ 202 ∷ 202 ∷ 202 ∷ 202 ∷ 202 ∷ 202 ∷ 202 ∷ 202 ∷ 202 ∷ 202 ∷ 202 ∷ 202 ∷ 202 ∷ 202 ∷ 202 ∷ 202 ∷ 202 ∷ 202 ∷ 202 ∷ 202 ∷ 202 ∷ 202 ∷ 202 ∷ 202 ∷ 202 ∷ 202 ∷ 202 ∷ 202 ∷ 202 ∷ 202 ∷ 202 ∷ 202 ∷ 202 ∷ 202 ∷ 202 ∷ 202 ∷ 202 ∷ 202 ∷ 202 ∷ 202 ∷ 202 ∷ 202 ∷ 202 ∷ 202 ∷ 202 ∷ 202 ∷ 202 ∷ 202 ∷ 202 ∷ 202 ∷ 202 ∷ 202 ∷ 202 ∷ 202 ∷ 202 ∷ 202 ∷ 202 ∷ 202 ∷ 202 ∷ 202 ∷ 202 ∷ 202 ∷ 202 ∷ 202 ∷ 202 ∷ 202 ∷ 202 ∷ 202 ∷ 202 ∷ 202 ∷ 202 ∷ 202 ∷ 202 ∷ 202 ∷ 202 ∷ 202 ∷ 202 ∷ 202 ∷ 202 ∷ 202 ∷ 202 ∷ 202 ∷ 202 ∷ 202 ∷ 202 ∷ 202 ∷ 202 ∷ 202 ∷ 202 ∷ 202 ∷ 202 ∷ 202 ∷ 202 ∷ 202 ∷ 202 ∷ 202 ∷ 202 ∷ 202 ∷ 202 ∷ 202 ∷ 202 ∷ 202 ∷ 202 ∷ 202 ∷ 202 ∷ 202 ∷ 202 ∷ 202 ∷ 202 ∷ 202 ∷ 202 ∷ 202 ∷ 202 ∷ 202 ∷ 202 ∷ 202 ∷ 202 ∷ 202 ∷ 202 ∷ 202 ∷ 202 ∷ 202 ∷ 202 ∷ 202 ∷ 202 ∷ 202 ∷ 202 ∷ 202 ∷ 202 ∷ 202 ∷ 202 ∷ 202 ∷ []))
    ∷ Settle (codes "d14") Failed EngineError
    ∷ Settle (codes "t9") Failed EngineError
    ∷ Input (Open 0 LeastLoad 1 3)
    ∷ Hand (codes "d14") 1
    ∷ Input (In 5 293398414339 3094576072806326567 thin_29_m7)
    ∷ Settle (codes "t3") Completed ByReply
    ∷ Input (In 1 293398413839 802098320282034736 thin_29_m6)
    ∷ Settle (codes "d6") Failed ByReply
    ∷ Input (In 3 293398410839 0 thin_29_m5)
    ∷ Hand (codes "t9") 1
    ∷ Input (In 2 293398410839 521092148779359550 thin_29_m4)
    ∷ Hand (codes "t3") 0
    ∷ Input (In 2 293398410839 521092148779359550 thin_29_m3)
    ∷ Hand (codes "d6") 1
    ∷ Input (In 5 293398410838 5113538007281545570 thin_29_m2)
    ∷ Input (Up 6 Hub 0 0 (codes "d"))
    ∷ Input (Up 5 Mux 0 0 (codes "d"))
    ∷ Input (Up 4 Task 0 0 (codes "conn-4"))
    ∷ Input (In 3 0 0 thin_29_m1)
    ∷ Input (Up 3 Engine 0 0 (codes "x3"))
    ∷ Input (Up 2 Task 0 0 (codes "x2"))
    ∷ Input (In 1 0 0 thin_29_m0)
    ∷ Input (Up 1 Engine 0 0 (codes "d"))
    ∷ Input (Open 0 PlainRandom 2 3)
    ∷ []

abbrev thin_29_left : History
thin_29_left =
    Settle (codes "t7") Failed ImpossibleDependency
    ∷ Input (In 11 527714387286 0 thin_29_m9)
    ∷ Input (In 19 527714321286 2567820468531551805 thin_29_m8)
    ∷ Input (Up 19 Hub 527714321286 2567820468531551805 (codes "conn-19"))
    ∷ Input (Up 12 Mux 0 0 (235 ∷ []))
    ∷ Input (Up 11 Task 0 0 (codes "qqqqqqqqqqqqqqqqqqqqqqqqqqqqqqqqqqqqqqqqqqqqqqqqqqqqqqqqqqqqqqqqqqqqqqqqqqqqqqqqqqqqqqqqqqqqqqqqqqqqqqqqqqqqqqqqqqqqqqqqqqqqqqqqqqqqqqqqqqqqqqqqqqqqqqqqqqqqqqqqqqqqqqqqqqqqqqqqqqqqqqqqqqqqqqqqqqqqqqqqqqqqqqqqqqqqqqqqqqqqqqqqqqqqqqqqqqqqqqqqqqqqqqqqqqqqqqq"))
    ∷ Input (Up 4 Engine 0 0 (202 ∷ 202 ∷ 202 ∷ 202 ∷ 202 ∷ 202 ∷ 202 ∷ 202 ∷ 202 ∷ 202 ∷ 202 ∷ 202 ∷ 202 ∷ 202 ∷ 202 ∷ 202 ∷ 202 ∷ 202 ∷ 202 ∷ 202 ∷ 202 ∷ 202 ∷ 202 ∷ 202 ∷ 202 ∷ 202 ∷ 202 ∷ 202 ∷ 202 ∷ 202 ∷ 202 ∷ 202 ∷ 202 ∷ 202 ∷ 202 ∷ 202 ∷ 202 ∷ 202 ∷ 202 ∷ 202 ∷ 202 ∷ 202 ∷ 202 ∷ 202 ∷ 202 ∷ 202 ∷ 202 ∷ 202 ∷ 202 ∷ 202 ∷ 202 ∷ 202 ∷ 202 ∷ 202 ∷ 202 ∷ 202 ∷ 202 ∷ 202 ∷ 202 ∷ 202 ∷ 202 ∷ 202 ∷ 202 ∷ 202 ∷ 202 ∷ 202 ∷ 202 ∷ 202 ∷ 202 ∷ 202 ∷ 202 ∷ 202 ∷ 202 ∷ 202 ∷ 202 ∷ 202 ∷ 202 ∷ 202 ∷ 202 ∷ 202 ∷ 202 ∷ 202 ∷ 202 ∷ 202 ∷ 202 ∷ 202 ∷ 202 ∷ 202 ∷ 202 ∷ 202 ∷ 202 ∷ 202 ∷ 202 ∷ 202 ∷ 202 ∷ 202 ∷ 202 ∷ 202 ∷ 202 ∷ 202 ∷ 202 ∷ 202 ∷ 202 ∷ 202 ∷ 202 ∷ 202 ∷ 202 ∷ 202 ∷ 202 ∷ 202 ∷ 202 ∷ 202 ∷ 202 ∷ 202 ∷ 202 ∷ 202 ∷ 202 ∷ 202 ∷ 202 ∷ 202 ∷ 202 ∷ 202 ∷ 202 ∷ 202 ∷ 202 ∷ 202 ∷ 202 ∷ 202 ∷ 202 ∷ 202 ∷ 202 ∷ 202 ∷ 202 ∷ 202 ∷ 202 ∷ 202 ∷ 202 ∷ 202 ∷ 202 ∷ 202 ∷ 202 ∷ 202 ∷ 202 ∷ 202 ∷ 202 ∷ 202 ∷ 202 ∷ 202 ∷ 202 ∷ 202 ∷ 202 ∷ 202 ∷ 202 ∷ 202 ∷ 202 ∷ 202 ∷ 202 ∷ 202 ∷ 202 ∷ 202 ∷ 202 ∷ 202 ∷ 202 ∷ 202 ∷ 202 ∷ 202 ∷ 202 ∷ 202 ∷ 202 ∷ 202 ∷ 202 ∷ 202 ∷ 202 ∷ 202 ∷ 202 ∷ 202 ∷ 202 ∷ 202 ∷ 202 ∷ 202 ∷ 202 ∷ 202 ∷ 202 ∷ 202 ∷ 202 ∷ 202 ∷ 202 ∷ 202 ∷ 202 ∷ 202 ∷ 202 ∷ 202 ∷ 202 ∷ 202 ∷ 202 ∷ 202 ∷ 202 ∷ 202 ∷ 202 ∷ 202 ∷ 202 ∷ 202 ∷ 202 ∷ 202 ∷ 202 ∷ 202 ∷ 202 ∷ 202 ∷ 202 ∷ 202 ∷ 202 ∷ 202 ∷ 202 ∷ 202 ∷ 202 ∷ 202 ∷ 202 ∷ 202 ∷ 202 ∷ 202 ∷ 202 ∷ 202 ∷ 202 ∷ 202 ∷ 202 ∷ 202 ∷ 202 ∷ 202 ∷ 202 ∷ 202 ∷ 202 ∷ 202 ∷ 202 ∷ 202 ∷ 202 ∷ 202 ∷ 202 ∷ 202 ∷ 202 ∷ 202 ∷ 202 ∷ 202 ∷ 202 ∷ 202 ∷ 202 ∷ 202 ∷ 202 ∷ 202 ∷ 202 ∷ 202 ∷ 202 ∷ 202 ∷ 202 ∷ 202 ∷ 202 ∷ []))
    ∷ Settle (codes "d14") Failed EngineError
    ∷ Settle (codes "t9") Failed EngineError
    ∷ Input (Open 0 LeastLoad 1 3)
    ∷ Hand (codes "d14") 1
    ∷ Input (In 5 293398414339 3094576072806326567 thin_29_m14)
    ∷ Settle (codes "t3") Completed ByReply
    ∷ Input (In 1 293398413839 802098320282034736 thin_29_m13)
    ∷ Settle (codes "d6") Failed ByReply
    ∷ Input (In 3 293398410839 0 thin_29_m12)
    ∷ Hand (codes "t9") 1
    ∷ Input (In 2 293398410839 521092148779359550 thin_29_m4)
    ∷ Hand (codes "t3") 0
    ∷ Input (In 2 293398410839 521092148779359550 thin_29_m11)
    ∷ Hand (codes "d6") 1
    ∷ Input (In 5 293398410838 5113538007281545570 thin_29_m10)
    ∷ Input (Up 6 Hub 0 0 (codes "d"))
    ∷ Input (Up 5 Mux 0 0 (codes "d"))
    ∷ Input (Up 4 Task 0 0 (codes "conn-4"))
    ∷ Input (In 3 0 0 thin_29_m1)
    ∷ Input (Up 3 Engine 0 0 (codes "x3"))
    ∷ Input (Up 2 Task 0 0 (codes "x2"))
    ∷ Input (In 1 0 0 thin_29_m0)
    ∷ Input (Up 1 Engine 0 0 (codes "d"))
    ∷ Input (Open 0 PlainRandom 2 3)
    ∷ []

pub thin_29_kept : kept thin_29 ≡ thin_29
unfolding serde_json_on_literals is_utf8 chars event_of read_header is_request is_reply is_leave read_submit whole_timeouts ends_in_name is_db request_of read_content read_task read_declined read_status reserved_front resubmit_id digits
thin_29_kept = refl

pub thin_29_thin : thin thin_29 ≡ thin_29_left
unfolding serde_json_on_literals is_utf8 chars event_of read_header is_request is_reply is_leave read_submit whole_timeouts ends_in_name is_db request_of read_content read_task read_declined read_status reserved_front resubmit_id digits no_content short_reply
thin_29_thin = refl

abbrev thin_31_m0 : Message
thin_31_m0 = message [] (codes "{\"msg_id\":\"j1\",\"msg_type\":\"registration_request\"}") (codes "{}") (codes "{}") (codes "{\"uuid\":\"e4\"}") []

abbrev thin_31_m1 : Message
thin_31_m1 = message [] (codes "{\"msg_id\":\"j2\",\"msg_type\":\"registration_request\"}") (codes "{}") (codes "{}") (codes "{\"uuid\":\"e3\"}") []

abbrev thin_31_m2 : Message
thin_31_m2 = message (codes "e4") (codes "{\"msg_id\":\"d3\",\"msg_type\":\"execute_request\"}") (codes "{}") (codes "{}") (codes "{\"code\":\"1\"}") []

abbrev thin_31_m3 : Message
thin_31_m3 = message [] (codes "{\"msg_id\":\"r4\",\"msg_type\":\"apply_reply\"}") (codes "{\"msg_id\":\"d3\",\"x\":1}") (codes "{}") (codes "{\"status\":\"ok\",\"result\":\"42\"}") ((codes "b") ∷ (codes "b") ∷ (codes "b") ∷ (codes "b") ∷ (codes "b") ∷ (codes "b") ∷ (codes "b") ∷ (codes "b") ∷ (codes "b") ∷ (codes "b") ∷ (codes "b") ∷ (codes "b") ∷ (codes "b") ∷ (codes "b") ∷ (codes "b") ∷ (codes "b") ∷ (codes "b") ∷ (codes "b") ∷ (codes "b") ∷ (codes "b") ∷ (codes "b") ∷ (codes "b") ∷ (codes "b") ∷ (codes "b") ∷ (codes "b") ∷ (codes "b") ∷ (codes "b") ∷ (codes "b") ∷ (codes "b") ∷ (codes "b") ∷ (codes "b") ∷ (codes "b") ∷ (codes "b") ∷ (codes "b") ∷ (codes "b") ∷ (codes "b") ∷ (codes "b") ∷ (codes "b") ∷ (codes "b") ∷ (codes "b") ∷ (codes "b") ∷ (codes "b") ∷ (codes "b") ∷ (codes "b") ∷ (codes "b") ∷ (codes "b") ∷ (codes "b") ∷ (codes "b") ∷ (codes "b") ∷ (codes "b") ∷ (codes "b") ∷ (codes "b") ∷ (codes "b") ∷ (codes "b") ∷ (codes "b") ∷ (codes "b") ∷ (codes "b") ∷ (codes "b") ∷ [])

abbrev thin_31_m4 : Message
thin_31_m4 = message [] (codes "{\"msg_id\":\"q8\",\"msg_type\":\"resubmit_request\"}") (codes "{}") (codes "{}") (codes "{\"msg_ids\":[\"d3\"]}") []

abbrev thin_31_m5 : Message
thin_31_m5 = message (codes "e4") (codes "{\"msg_id\":\"d9\",\"msg_type\":\"execute_request\"}") (codes "{}") (codes "{}") (codes "{\"code\":\"1\"}") []

abbrev thin_31_m6 : Message
thin_31_m6 = message [] (codes "{\"msg_id\":\"r10\",\"msg_type\":\"execute_reply\"}") (codes "{\"msg_id\":\"d9\",\"x\":1}") (codes "{}") (codes "{\"status\":\"ok\",\"result\":\"42\"}") []

abbrev thin_31_m7 : Message
thin_31_m7 = message (codes "e4") (codes "{\"msg_id\":\"d12\",\"msg_type\":\"execute_request\"}") (codes "{}") (codes "{}") (codes "{\"code\":\"1\"}") []

abbrev thin_31_m8 : Message
thin_31_m8 = message [] (codes "{\"msg_id\":\"j13\",\"msg_type\":\"registration_request\"}") (codes "{}") (codes "{}") (codes "{\"uuid\":\"e0\"}") []

abbrev thin_31_m9 : Message
thin_31_m9 = message [] (codes "{\"msg_id\":\"r17\",\"msg_type\":\"apply_reply\"}") (codes "{\"msg_id\":\"d12\",\"x\":1}") (codes "{\"dependencies_met\":true}") (codes "{\"status\":\"ok\",\"result\":\"42\"}") ((codes "b") ∷ (codes "b") ∷ (codes "b") ∷ (codes "b") ∷ (codes "b") ∷ (codes "b") ∷ (codes "b") ∷ (codes "b") ∷ (codes "b") ∷ (codes "b") ∷ (codes "b") ∷ (codes "b") ∷ (codes "b") ∷ (codes "b") ∷ (codes "b") ∷ (codes "b") ∷ (codes "b") ∷ (codes "b") ∷ (codes "b") ∷ (codes "b") ∷ (codes "b") ∷ (codes "b") ∷ (codes "b") ∷ (codes "b") ∷ (codes "b") ∷ (codes "b") ∷ (codes "b") ∷ (codes "b") ∷ (codes "b") ∷ (codes "b") ∷ (codes "b") ∷ (codes "b") ∷ (codes "b") ∷ (codes "b") ∷ (codes "b") ∷ (codes "b") ∷ (codes "b") ∷ (codes "b") ∷ (codes "b") ∷ (codes "b") ∷ (codes "b") ∷ (codes "b") ∷ (codes "b") ∷ (codes "b") ∷ (codes "b") ∷ (codes "b") ∷ (codes "b") ∷ (codes "b") ∷ (codes "b") ∷ (codes "b") ∷ (codes "b") ∷ (codes "b") ∷ (codes "b") ∷ (codes "b") ∷ (codes "b") ∷ (codes "b") ∷ (codes "b") ∷ (codes "b") ∷ [])

abbrev thin_31_m10 : Message
thin_31_m10 = message [] (codes "{\"msg_id\":\"j1\",\"msg_type\":\"registration_request\"}") (codes "{}") (codes "{}") (codes "{\"uuid\":\"engine \\u00e9\"}") []

abbrev thin_31_m11 : Message
thin_31_m11 = message [] (codes "{\"msg_id\":\"q5\",\"msg_type\":\"purge_request\"}") (codes "{}") (codes "{}") (codes "{\"msg_ids\":[\"d9\",\"resubmit:2\"]}") []

abbrev thin_31_m12 : Message
thin_31_m12 = message (101 ∷ 110 ∷ 103 ∷ 105 ∷ 110 ∷ 101 ∷ 32 ∷ 195 ∷ 169 ∷ []) (codes "{\"msg_id\":\"d7\",\"msg_type\":\"execute_request\"}") (codes "{}") (codes "{}") (codes "{\"code\":\"1\"}") []

abbrev thin_31_m13 : Message
thin_31_m13 = message (codes "e4") (codes "{\"msg_id\":\"d9\",\"msg_type\":\"execute_request\"}") (codes "{}") (codes "{}") (codes "{}") []

abbrev thin_31_m14 : Message
thin_31_m14 = message [] (codes "{\"msg_id\":\"r10\",\"msg_type\":\"execute_reply\"}") (codes "{\"msg_id\":\"d9\",\"x\":1}") (codes "{}") (codes "{\"status\":\"ok\"}") []

-- 5 of 40 entries are cut
abbrev thin_31 : History
thin_31 =
    Hand (codes "d7") 3
    ∷ Input (In 13 1448305641505 10254987118178738563 thin_31_m12)
    ∷ Input (In 14 1448305638505 9305976438428646710 thin_31_m11)
    ∷ Input (Up 14 Hub 0 0 (codes "x14"))
    ∷ Input (Up 13 Mux 0 0 (codes "+"))
    ∷ Input (Up 12 Task 0 0 (codes "conn-12"))
    ∷ Input (Up 4 Task 0 0 (codes "c"))
    ∷ Input (In 3 0 0 thin_31_m10)
    ∷ Input (Up 3 Engine 0 0 (codes "x3"))
    ∷ Settle (codes "resubmit:2") Failed EngineError
    ∷ Input (Open 0 LeastLoad 1 3)
    ∷ Input (Time 1688882968663 0)
    ∷ Settle (codes "d12") Completed ByReply
    ∷ Input (In 2 1688882908163 0 thin_31_m9)
    ∷ Input (In 8 1688882908163 13164730197877738952 thin_31_m8)
    ∷ Hand (codes "d12") 0
    ∷ Input (In 6 1688882908163 10936859743232998561 thin_31_m7)
    ∷ Settle (codes "d9") Completed ByReply
    ∷ Input (In 2 1688882848163 0 thin_31_m6)
    ∷ Hand (codes "d9") 0
    ∷ Input (In 6 1688882848163 2341392281505147591 thin_31_m5)
    ∷ Hand (codes "resubmit:2") 0
    ∷ Input (In 7 1688882845163 0 thin_31_m4)
    ∷ Input (Down 9 1688882845163 7903793628914459077)
    ∷ Input (Time 1688882785163 10875629508411589635)
    ∷ Input (Up 9 Task 1688882782162 12337725934471771673 (codes "x9"))
    ∷ Input (Up 8 Engine 1688882722162 0 (codes "x8"))
    ∷ Settle (codes "d3") Completed ByReply
    ∷ Input (In 2 1688882721662 957324555529750261 thin_31_m3)
    ∷ Hand (codes "d3") 0
    ∷ Input (In 6 1688882721662 8976926428172839042 thin_31_m2)
    ∷ Input (Up 7 Hub 0 0 (codes "d"))
    ∷ Input (Up 6 Mux 0 0 (codes "conn-6"))
    ∷ Input (Up 5 Task 0 0 (codes "x5"))
    ∷ Input (In 4 0 0 thin_31_m1)
    ∷ Input (Up 4 Engine 0 0 (codes "d"))
    ∷ Input (In 2 0 0 thin_31_m0)
    ∷ Input (Up 2 Engine 0 0 (codes "LLLLLLLLLLLLLLLLLLLLLLLLLLLLLLLLLLLLLLLLLLLLLLLLLLLLLLLLLLLLLLLLLLLLLLLLLLLLLLLLLLLLLLLLLLLLLLLLLLLLLLLLLLLLLLLLLLLLLLLLLLLLLLLLLLLLLLLLLLLLLLLLLLLLLLLLLLLLLLLLLLLLLLLLLLLLLLLLLLLLLLLLLLLLLLLLLLLLLLLLLLLLLLLLLLLLLLLLLLLLLLLLLLLLLLLLLLLLLLLLLLLLLLLLLLLLLLL"))
    ∷ Input (Open 0 Lru 1 3)
    ∷ []

abbrev thin_31_left : History
thin_31_left =
    Hand (codes "d7") 3
    ∷ Input (In 13 1448305641505 10254987118178738563 thin_31_m12)
    ∷ Input (In 14 1448305638505 9305976438428646710 thin_31_m11)
    ∷ Input (Up 14 Hub 0 0 (codes "x14"))
    ∷ Input (Up 13 Mux 0 0 (codes "+"))
    ∷ Input (Up 12 Task 0 0 (codes "conn-12"))
    ∷ Input (Up 4 Task 0 0 (codes "c"))
    ∷ Input (In 3 0 0 thin_31_m10)
    ∷ Input (Up 3 Engine 0 0 (codes "x3"))
    ∷ Settle (codes "resubmit:2") Failed EngineError
    ∷ Input (Open 0 LeastLoad 1 3)
    ∷ Input (Time 1688882968663 0)
    ∷ Settle (codes "d12") Completed ByReply
    ∷ Input (In 2 1688882908163 0 thin_31_m9)
    ∷ Input (In 8 1688882908163 13164730197877738952 thin_31_m8)
    ∷ Hand (codes "d12") 0
    ∷ Input (In 6 1688882908163 10936859743232998561 thin_31_m7)
    ∷ Settle (codes "d9") Completed ByReply
    ∷ Input (In 2 1688882848163 0 thin_31_m14)
    ∷ Hand (codes "d9") 0
    ∷ Input (In 6 1688882848163 2341392281505147591 thin_31_m13)
    ∷ Hand (codes "resubmit:2") 0
    ∷ Input (In 7 1688882845163 0 thin_31_m4)
    ∷ Input (Down 9 1688882845163 7903793628914459077)
    ∷ Input (Time 1688882785163 10875629508411589635)
    ∷ Input (Up 9 Task 1688882782162 12337725934471771673 (codes "x9"))
    ∷ Input (Up 8 Engine 1688882722162 0 (codes "x8"))
    ∷ Settle (codes "d3") Completed ByReply
    ∷ Input (In 2 1688882721662 957324555529750261 thin_31_m3)
    ∷ Hand (codes "d3") 0
    ∷ Input (In 6 1688882721662 8976926428172839042 thin_31_m2)
    ∷ Input (Up 7 Hub 0 0 (codes "d"))
    ∷ Input (Up 6 Mux 0 0 (codes "conn-6"))
    ∷ Input (Up 5 Task 0 0 (codes "x5"))
    ∷ Input (In 4 0 0 thin_31_m1)
    ∷ Input (Up 4 Engine 0 0 (codes "d"))
    ∷ Input (In 2 0 0 thin_31_m0)
    ∷ Input (Up 2 Engine 0 0 (codes "LLLLLLLLLLLLLLLLLLLLLLLLLLLLLLLLLLLLLLLLLLLLLLLLLLLLLLLLLLLLLLLLLLLLLLLLLLLLLLLLLLLLLLLLLLLLLLLLLLLLLLLLLLLLLLLLLLLLLLLLLLLLLLLLLLLLLLLLLLLLLLLLLLLLLLLLLLLLLLLLLLLLLLLLLLLLLLLLLLLLLLLLLLLLLLLLLLLLLLLLLLLLLLLLLLLLLLLLLLLLLLLLLLLLLLLLLLLLLLLLLLLLLLLLLLLLLLL"))
    ∷ Input (Open 0 Lru 1 3)
    ∷ []

pub thin_31_kept : kept thin_31 ≡ thin_31
unfolding serde_json_on_literals is_utf8 chars event_of read_header is_request is_reply is_leave read_submit whole_timeouts ends_in_name is_db request_of read_content read_task read_declined read_status reserved_front resubmit_id digits
thin_31_kept = refl

pub thin_31_thin : thin thin_31 ≡ thin_31_left
unfolding serde_json_on_literals is_utf8 chars event_of read_header is_request is_reply is_leave read_submit whole_timeouts ends_in_name is_db request_of read_content read_task read_declined read_status reserved_front resubmit_id digits no_content short_reply
thin_31_thin = refl
