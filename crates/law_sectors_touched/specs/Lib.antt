pub mod AllRoutes
